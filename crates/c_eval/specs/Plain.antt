-- What the plain evaluator's data stands for: lists of assignments, of which the last one to a name counts.
use Rattle.std.specs.Prelude.{ℕ, ◌+◌, ◌==◌, nat_lt, length, if◌then◌else◌, Option, Some, None, List, [], ◌∷◌, ◌++◌, map, reverse, fold, drop, slice_get, option_and_then}
use Rattle.lockstep.specs.Runs.{Goes}
use Rattle.rtl_core.specs.Contents.{Contents}
use Rattle.rtl_core.specs.Services.{Served}
use Rattle.rtl_core.specs.Value.{choice}
use Rattle.sysemu.specs.Streams.{world_of}
use Rattle.c_lang.specs.declared.tree.Var.{Var}
use Rattle.c_lang.specs.declared.tree.CExpr.{CExpr}
use Rattle.c_lang.specs.declared.tree.Program.{Program}
use Rattle.c_lang.specs.Value.{Vars, value}
use Rattle.c_lang.specs.State.{Place, Frame, Outer, State, CNext, same_var, is_global, stuck, stops}
use Rattle.c_lang.specs.State as State
use Rattle.c_lang.specs.declared.tree.Stmt.{Stmt}
use Rattle.c_lang.specs.Step.{Found, no_vars, most_frames, ended, go_to, returned}
use Rattle.c_lang.specs.Step as Step
use Rattle.c_lang.specs.Run.{zero_globals}
use Rattle.c_eval.specs.declared.state.Setting.{Setting}
use Rattle.c_eval.specs.declared.state.Word.{Word}
use Rattle.c_eval.specs.declared.state.PlainPlace.{PlainPlace}
use Rattle.c_eval.specs.declared.state.PlainPlace.TheVariants.{Nowhere, At}
use Rattle.c_eval.specs.declared.state.PlainFrame.{PlainFrame}
use Rattle.c_eval.specs.declared.state.PlainState.{PlainState}
use Rattle.c_eval.specs.declared.state.Taken.{Taken}
use Rattle.c_eval.specs.declared.state.Taken.TheVariants.{Went, Stops, Sticks}
use Rattle.c_eval.specs.declared.state.Way.{Way}
use Rattle.c_eval.specs.declared.state.Way.TheVariants.{On, Back, Over}

-- ---- assignments

-- the value of a variable after some assignments
unfoldable pub latest : Option ℕ → Var → List Setting → Option ℕ
latest first v xs = fold (λ o s. if same_var s.var v then Some s.value else o) first xs

-- the variables after some assignments
unfoldable pub shown : Vars → List Setting → Vars
shown first xs = λ v. latest (first v) v xs

-- a word after some assignments; each is 0 at first
unfoldable pub word_at : List Word → ℕ → ℕ
word_at xs i = fold (λ n w. if w.index == i then w.value else n) 0 xs

-- the variables that a frame sees
unfoldable pub seen_in : List Setting → List Setting → Vars
seen_in globals locals = λ v. if is_global v then shown zero_globals globals v else shown no_vars locals v

-- ---- states

abbrev pub place_of : PlainPlace → Place
place_of Nowhere = State.Nowhere
place_of (At rest end) = State.At rest end

abbrev pub frame_of : PlainFrame → Frame
frame_of f = record { function = f.function; place = place_of f.place; vars = shown no_vars f.vars }

-- the state over a memory; the frame on top of those below stands last
abbrev pub state_of : PlainState → Contents → State
state_of s memory = record {
  top = frame_of s.top;
  below = map frame_of (reverse s.below);
  outer = record {
    globals = shown zero_globals s.globals;
    words = word_at s.words;
    world = world_of memory s.streams;
    output = s.output;
  };
}

-- what a step led to, from one state to another
abbrev pub moment : Taken → Program → State → State → CNext
moment Went p old new = Goes new
moment (Stops stop) p old new = stops old stop
moment Sticks p old new = stuck p old

-- a state with what a service did to the world and wrote
abbrev pub with_served : State → Served → State
with_served s done = record s { outer = record s.outer { world = done.world; output = s.outer.output ++ done.written } }

-- a call entered with its parameters set, where one more can be open
abbrev pub entered : Program → State → Found → Vars → CNext
entered p s f vars =
    if nat_lt (length s.below + 1) most_frames
    then Goes (record { top = Step.frame_of f vars; below = s.top ∷ s.below; outer = s.outer })
    else stuck p s

-- the values of some expressions behind those found so far; none where one has no value
abbrev pub values_from : List ℕ → Vars → List CExpr → Option (List ℕ)
values_from found vars [] = Some found
values_from found vars (e ∷ es) = option_and_then (λ n. values_from (found ++ n ∷ []) vars es) (value vars e)

-- ---- places

-- the statement that comes next; none where no statement is left
abbrev pub next_of : Place → Option Stmt
next_of State.Nowhere = None
next_of (State.At rest end) = slice_get rest 0

-- the place behind that statement
abbrev pub behind : Place → Place
behind State.Nowhere = State.Nowhere
behind (State.At rest end) = State.At (drop 1 rest) end

-- a place with statements put in front, unless a number is 0
abbrev pub in_front : ℕ → List Stmt → Place → Place
in_front n stmts State.Nowhere = State.Nowhere
in_front n stmts (State.At rest end) = State.At (choice n (stmts ++ rest) rest) end

-- ---- ends

-- what happens at a place where no statement is left
abbrev pub at_end : Program → State → Place → CNext
at_end p s State.Nowhere = stuck p s
at_end p s (State.At rest end) = ended p s end

-- where a way leads from a state
abbrev pub led : Way → Program → State → CNext
led (On to) p s = go_to p s to
led Back p s = returned p s s.below
led (Over t) p s = moment t p s s
