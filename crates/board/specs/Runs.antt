-- Sequences of sv_ calls from an sv_open on: each over the state bytes and the tables that the last one left, and
-- nothing else writes them.
use Rattle.std.specs.Prelude.{ℕ, ◌+◌, List, [], ◌∷◌, ◌++◌}
use Rattle.device.specs.Outcomes.{Lent, lends, Outcome}
use Rattle.model.specs.Said.{Said}
use Rattle.promises.specs.Typed.{Made}
use Rattle.promises.specs.Runs.{Run, read_out}
use Rattle.promises.specs.Stands.{Says}
use Rattle.kept.specs.State.{state_bytes, device_in}
use Rattle.kept.specs.Handing.{left}
use Rattle.board.specs.Board.{called, opened_on}

-- the state bytes and the tables after some calls, the index of the next call, and the bytes of every event read
pub record BoardRun : Type 0 where
  pub state : List ℕ
  pub queue : List ℕ
  pub send : List ℕ
  pub index : ℕ
  pub read : List (List ℕ)

-- the same run with the device that its state bytes stand for
abbrev pub as_run : BoardRun → Run
as_run r = record { device = device_in r.state; queue = r.queue; send = r.send; index = r.index; read = r.read }

-- what the next call of a run answers and leaves
abbrev pub called_next : Made → BoardRun → Outcome
called_next x r = called x.call r.state (lends r.queue r.send x.out)

-- a run with one call more: beside a refusal the state stays
unfoldable pub next : Made → BoardRun → BoardRun
next x r =
    let o : Outcome = called_next x r in
    record {
      state = left o.number r.state (state_bytes o.device);
      queue = o.lent.queue;
      send = o.lent.send;
      index = r.index + 1;
      read = r.read ++ read_out x.call (as_run r) o;
    }

-- a list of calls, the first one first
unfoldable pub run : List Made → BoardRun → BoardRun
run [] r = r
run (x ∷ xs) r = run xs (next x r)

-- what sv_open with the settings given leaves over the state bytes s
abbrev pub started : List ℕ → List ℕ → Lent → BoardRun
started given s l =
    let o : Outcome = opened_on given s l in
    let state : List ℕ = left o.number s (state_bytes o.device) in
    record { state = state; queue = o.lent.queue; send = o.lent.send; index = 0; read = [] }

-- as many answers as calls, and each call of the run from r on says its answer
abbrev pub Answered : List Made → BoardRun → List Said → Type 0
Answered [] r [] = Unit {0}
Answered [] r (a ∷ rest) = ⊥
Answered (x ∷ xs) r [] = ⊥
Answered (x ∷ xs) r (a ∷ rest) = Says (called_next x r) x.out a × Answered xs (next x r) rest
