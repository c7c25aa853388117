-- Printed messages as they are seen.
use Prim.Native.String.{String}
use Prim.Native.Nat.{ℕ}
use mathlib.Core.Path.{◌≡◌, refl}
use mathlib.Core.List.{List, [], ◌∷◌, map}
use Rattle.digits.specs.Ascii.{ascii}
use Rattle.digits.specs.Digits.{hex_digit, hex, fields}
use Rattle.ids.specs.Ids.{id_low}
use Rattle.ids.specs.Frames.{carried}
use Rattle.messages.specs.declared.Message.{Message}
use Rattle.message_text.specs.Printing.{message_text, message_line}

pub record Row : Type 0 where
  pub text : String
  pub align : ℕ
  pub message : Message

abbrev row : String → ℕ → (id format rtr dlc : ℕ) → List ℕ → Row
row t a id format rtr dlc b =
    record {
      text = t;
      align = a;
      message = record { header = record { id = id; format = format; rtr = rtr; dlc = dlc }; bytes = b };
    }

abbrev pub rows : List Row
rows =
    row "00000731 0 4 11 22 33 44\n" 0 0x731 1 0 4 (0x11 ∷ 0x22 ∷ 0x33 ∷ 0x44 ∷ 0 ∷ 0 ∷ 0 ∷ 0 ∷ [])
    ∷ row "1CC40000 1 F\n" 2 0x731 1 1 15 (0 ∷ 0 ∷ 0 ∷ 0 ∷ 0 ∷ 0 ∷ 0 ∷ 0 ∷ [])
    ∷ row "FFFFFFF8 0 C FF FE FD FC AB A0 10 00\n" 3 0x1FFFFFFF 2 0 12
    (0xFF ∷ 0xFE ∷ 0xFD ∷ 0xFC ∷ 0xAB ∷ 0xA0 ∷ 0x10 ∷ 0x00 ∷ [])
    ∷ []

-- each message is printed as its row says
pub lines : map (λ r. message_line r.align r.message) rows ≡ map (λ r. ascii r.text) rows
unfolding message_line message_text hex_digit hex fields carried id_low
lines = refl
