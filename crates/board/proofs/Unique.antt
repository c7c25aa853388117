-- Each exported call's contract leaves one outcome: two answers, with the bytes and values left beside them, that both
-- meet it are equal.
use mathlib.Core.Path.{◌≡◌, sym, ◌∙◌}
use mathlib.Core.List.{List}
use Prim.Native.Nat.{ℕ}
use Rattle.device.specs.Outcomes.{Lent, Outcome}
use Rattle.board.specs.Board.{Called, CalledWith}

module _ {o : Outcome} {s : List ℕ} {n m : ℕ} {t u : List ℕ} {k l : Lent} where
  -- every call; sv_send_text's used is an equation beside it, and leaves one number
  pub unique : Called o s n t k → Called o s m u l → (n ≡ m) × (t ≡ u) × (k ≡ l)
  unique a b =
      (a.number ∙ sym b.number, a.state_is ∙ sym b.state_is, a.lent_bytes ∙ sym b.lent_bytes)

  -- and with a place for a value
  pub unique_with : {A : Type 0} {was new v w : A} → CalledWith o s was new n t k v → CalledWith o s was new m u l w
      → (n ≡ m) × (t ≡ u) × (k ≡ l) × (v ≡ w)
  unique_with a b =
      let c = unique a.call b.call in
      (c.0, c.1, c.2, a.value_is ∙ sym b.value_is)
