-- A site's two numbers and their 8 bytes (M-106).
use Rattle.std.specs.Prelude.{ℕ, ◌+◌, ◌-◌, ◌^◌, Bool, ◌&&◌, ◌||◌, List, ◌++◌, length, ltb, leb, eqb}
use Rattle.std.proofs.Math.Seq.{slice}
use Rattle.common.specs.Choice.{pick}
use Rattle.common.specs.Numbers.{bytes_of, number_of}
use Rattle.sites.specs.declared.Site.{Site}

-- a site is 8 bytes
abbrev pub site_size : ℕ
site_size = 8

-- minutes from -720 to 840, a negative one as a 32-bit number in two's complement
unfoldable pub good_offset : ℕ → Bool
good_offset n = leb n 840 || (leb (2 ^ 32 - 720) n && ltb n (2 ^ 32))

-- the largest second at which tick zero can have fallen: the largest number of six bytes
abbrev pub last_second : ℕ
last_second = 281474976710655

-- both numbers are in range
unfoldable pub good_site : Site → Bool
good_site s = good_offset s.offset && leb s.second last_second

-- the zeros that stand beside a refusal
abbrev pub no_site : Site
no_site = record { offset = 0; second = 0 }

-- a site's 8 bytes: the offset 0..1 in two's complement, the second 2..7
unfoldable pub site_bytes : Site → List ℕ
site_bytes s = bytes_of 2 s.offset ++ bytes_of 6 s.second

-- a 16-bit number in two's complement as one of 32 bits
abbrev pub extended : ℕ → ℕ
extended n = pick (ltb n (2 ^ 15)) n (n + (2 ^ 32 - 2 ^ 16))

-- the site that 8 bytes stand for
unfoldable pub site_in : List ℕ → Site
site_in b = record { offset = extended (number_of (slice 0 2 b)); second = number_of (slice 2 8 b) }

-- bytes that are no damaged site: 8 of them, both numbers in range
unfoldable pub is_site : List ℕ → Bool
is_site b = eqb (length b) site_size && good_site (site_in b)
