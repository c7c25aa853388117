-- The numbers of a message text, and its ends (01, "The two texts").
use Rattle.std.specs.Prelude.{ℕ, ◌+◌, ◌*◌, List, [], ◌∷◌, ◌++◌, Bool, true, false}
use Rattle.common.specs.Choice.{pick}
use Rattle.digits.specs.Reading.{byte_kind}
use Rattle.digits.specs.declared.reading.ByteKind.{ByteKind}
use Rattle.digits.specs.declared.reading.ByteKind.TheVariants.{Digit, Separator, End}

-- what an end is
abbrev pub end_kind : ByteKind → Bool
end_kind (Digit d) = false
end_kind Separator = false
end_kind End = true

-- what a digit is
abbrev pub digit_kind : ByteKind → Bool
digit_kind (Digit d) = true
digit_kind Separator = false
digit_kind End = false

-- CR, LF and zero are ends
abbrev pub is_end : ℕ → Bool
is_end b = end_kind (byte_kind b)

-- a hexadecimal digit
abbrev pub is_digit : ℕ → Bool
is_digit b = digit_kind (byte_kind b)

-- where a reader of numbers stands: between two numbers, or within one whose digits so far make v
pub data Place : Type 0 where
  between : Place
  within : ℕ → Place

-- the number that ends at this place, if one does
abbrev pub ended : Place → List ℕ
ended between = []
ended (within v) = v ∷ []

-- the place after one more digit d
abbrev pub grown : Place → ℕ → Place
grown between d = within d
grown (within v) d = within (v * 16 + d)

-- the place after a byte: a digit goes on with a number, any other byte leaves it
abbrev pub after : Place → ByteKind → Place
after p (Digit d) = grown p d
after p Separator = between
after p End = between

-- the numbers from a place on, up to the first end: any number of digits each
unfoldable pub numbers_from : Place → List ℕ → List ℕ
numbers_from p [] = ended p
numbers_from p (b ∷ bs) =
    pick (is_end b) (ended p) (pick (is_digit b) [] (ended p) ++ numbers_from (after p (byte_kind b)) bs)

-- the numbers of a text
abbrev pub numbers : List ℕ → List ℕ
numbers text = numbers_from between text

-- how many bytes stand before the first end
unfoldable pub before_end : List ℕ → ℕ
before_end [] = 0
before_end (b ∷ bs) = pick (is_end b) 0 (1 + before_end bs)

-- how many ends stand in a row at the front
unfoldable pub end_run : List ℕ → ℕ
end_run [] = 0
end_run (b ∷ bs) = pick (is_end b) (1 + end_run bs) 0
