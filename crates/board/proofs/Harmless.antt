-- A refused call (a number from 1 to 99) changes no byte of the state, no lent byte and no place for a value.
use mathlib.Core.Path.{◌≡◌, refl, ap, ◌∙◌}
use mathlib.Core.Bool.{true}
use mathlib.Core.List.{List}
use Prim.Native.Nat.{ℕ}
use lib.Dec.{eqb}
use lib.ListN.{length}
use Rattle.common.proofs.Choices.{pick_is}
use Rattle.common.specs.Refusals.{is_refusal}
use Rattle.device.specs.Outcomes.{Lent, Outcome}
use Rattle.device.specs.Opening.{opened}
use Rattle.model.specs.Box.{Call}
use Rattle.promises.proofs.Harmless as Calls
use Rattle.kept.specs.State.{state_size, device_in, is_state}
use Rattle.settings.specs.Given.{settings_size, settings_in}
use Rattle.board.specs.Board.{borrowed, lent_to, hands_back, on, called, opened_on, Unchanged}
use Rattle.board.proofs.Ways.{hands_back_lem}

-- a refused outcome leaves what was lent
abbrev Keeps : Lent → Outcome → Type 0
Keeps l o = is_refusal o.number ≡ true → o.lent ≡ l

unchanged : (o : Outcome) (s : List ℕ) (l : Lent) → Keeps l o → is_refusal o.number ≡ true → Unchanged o s l
unchanged o s l k h = record { state_kept = rw h; lent_kept = k h; place_kept = λ old new. rw h }

-- every call but opening, on any bytes as its state
pub harmless : (x : Call) (s : List ℕ) (l : Lent) → is_refusal (called x s l).number ≡ true
    → Unchanged (called x s l) s l
unfolding called on
harmless x s l h =
    let v = borrowed x in
    let m = lent_to v l in
    let keeps = pick_is (Keeps m) (is_state s) (λ e. (Calls.harmless x (device_in s) m).bytes_kept) (λ e f. refl) in
    unchanged (called x s l) s l (λ f. ap (hands_back v l) (keeps f) ∙ hands_back_lem v l) h

-- opening, with any settings over any bytes
pub open_harmless : (given s : List ℕ) (l : Lent) → is_refusal (opened_on given s l).number ≡ true
    → Unchanged (opened_on given s l) s l
unfolding opened_on
open_harmless given s l h =
    let g = settings_in given in
    unchanged (opened_on given s l) s l
    (pick_is (Keeps l) (eqb (length given) settings_size)
    (λ c. pick_is (Keeps l) (eqb (opened g l).number 0)
    (λ e. pick_is (Keeps l) (eqb (length s) state_size) (λ f. (Calls.open_harmless g l).bytes_kept) (λ f k. refl))
    (λ e. (Calls.open_harmless g l).bytes_kept))
    (λ c k. refl)) h
