use Rattle.c_control.proofs.FramesStayRight.{frames-stay-right}
use Rattle.c_control.proofs.frames_stay_right.Goals as goal

pub returns : goal.returns
returns c = frames-stay-right
