-- What a writer leaves in a lent buffer, and what a call that prints a line answers and leaves.
use Rattle.std.specs.Prelude.{ℕ, ◌+◌, ◌≡◌, List, ◌++◌, length, drop, Result, eqb}
use Rattle.std.proofs.lemmas.List.Edits.{sets}
use Rattle.common.specs.Choice.{pick}
use Rattle.common.specs.Refusals.{Answers}
use Rattle.common.specs.declared.refusals.Refusal.{Refusal}

-- text was put into the buffer `old` from place `at` on, every other byte was left, and `next` is the place after
-- the text
pub record Put (old : List ℕ) (at : ℕ) (text : List ℕ) (new : List ℕ) (next : ℕ) : Type 0 where
  pub bytes : new ≡ sets old at text
  pub place : next ≡ at + length text

-- the buffer afterwards: the line, then what was there; after a refusal all as it was
abbrev pub out_after : ℕ → List ℕ → List ℕ → List ℕ
out_after number line old = pick (eqb number 0) (line ++ drop (length line) old) old

-- `number` is the first refusal, or 0: then the answer is the line's length
pub record Prints (number : ℕ) (line old : List ℕ) (r : Result ℕ Refusal) (new : List ℕ) : Type 0 where
  pub answer : Answers number (length line) r
  pub out : new ≡ out_after number line old
