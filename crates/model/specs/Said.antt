-- What a call answers (01, "Refusal numbers").
use Rattle.std.specs.Prelude.{ℕ, List, [], length, replicate}

-- the paper's number, a value (a length, the bytes used, how many), the bytes of a record, the text of a line
pub record Said : Type 0 where
  pub number : ℕ
  pub value : ℕ
  pub bytes : List ℕ
  pub line : List ℕ

-- a number alone: success where nothing stands beside it, and every refusal but those below
abbrev pub says : ℕ → Said
says n = record { number = n; value = 0; bytes = []; line = [] }

-- a refusal where a record of w bytes would be answered: zeros
abbrev pub says_zeros : ℕ → ℕ → Said
says_zeros w n = record { number = n; value = 0; bytes = replicate w 0; line = [] }

-- success beside a number
abbrev pub counts : ℕ → Said
counts v = record { number = 0; value = v; bytes = []; line = [] }

-- success beside the bytes of a record
abbrev pub hands : List ℕ → Said
hands b = record { number = 0; value = 0; bytes = b; line = [] }

-- success beside a line and its length
abbrev pub prints : List ℕ → Said
prints l = record { number = 0; value = length l; bytes = []; line = l }
