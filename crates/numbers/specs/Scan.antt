-- What the code keeps of a text's numbers: the first eleven, each at most 2 ^ 32, and how many there are, at most 12.
use Rattle.std.specs.Prelude.{ℕ, ◌+◌, ◌≤◌, min, ◌≡◌, List, map, length, drop, set, replicate}
use Rattle.std.proofs.lemmas.List.Edits.{sets}
use Rattle.digits.specs.Reading.{capped}
use Rattle.numbers.specs.Numbers.{numbers, before_end}
use Rattle.numbers.specs.declared.Kept.{Kept}
use Rattle.numbers.specs.declared.Scanned.{Scanned}

-- n numbers counted, and those that are kept of them
abbrev pub kept : ℕ → List ℕ → Kept
kept n at = record { count = n; at = at }

-- one number more behind those that are kept
abbrev pub kept_more : Kept → ℕ → Kept
kept_more k v = kept (min 12 (k.count + 1)) (set k.at k.count v)

-- numbers kept behind n that are kept already
unfoldable pub kept_from : List ℕ → ℕ → List ℕ → Kept
kept_from at n values = kept (min 12 (n + length values)) (sets at n values)

-- a text's numbers, kept
abbrev pub kept_of : List ℕ → Kept
kept_of values = kept_from (replicate 11 0) 0 (map capped values)

-- a scan keeps the text's numbers and stops inside the text, with no end before
pub record ScanMet (text : List ℕ) (r : Scanned) : Type 0 where
  pub kept : r.kept ≡ kept_of (numbers text)
  pub inside : r.stop ≤ length text
  pub clear : before_end text ≡ r.stop + before_end (drop r.stop text)
