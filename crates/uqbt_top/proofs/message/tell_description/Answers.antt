use Rattle.std.proofs.Common.{sym}
use Rattle.uqbt_top.proofs.message.tell_description.Goals as goal

pub returns-in-Sled : goal.returns-in-Sled
returns-in-Sled g c = rw (c.in-Sled.is, sym c.description-told.ensures) c.tell_words.ensures

pub returns-in-Ssl : goal.returns-in-Ssl
returns-in-Ssl g c = rw (c.in-Ssl.is, sym c.description-told.ensures) c.tell_words-in-Ssl.ensures

pub returns-in-Conv : goal.returns-in-Conv
returns-in-Conv g c = rw (c.in-Conv.is, sym c.description-told.ensures) c.tell_words-in-Conv.ensures

pub returns-in-Exe : goal.returns-in-Exe
returns-in-Exe g c = rw (c.in-Exe.is, sym c.description-told.ensures) c.tell_words-in-Exe.ensures
