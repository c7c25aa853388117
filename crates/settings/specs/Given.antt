-- The settings as one list of numbers, as opening is given them in C (01, "Settings").
use Rattle.std.specs.Prelude.{ℕ, ◌+◌, ◌*◌, ◌^◌, List, get_or}
use Rattle.settings.specs.declared.Settings.{Settings}

-- how many numbers the settings are
abbrev pub settings_size : ℕ
settings_size = 13

-- a second given as two numbers, its low 32 bits and its high ones
abbrev pub joined : ℕ → ℕ → ℕ
joined low high = low + 2 ^ 32 * high

-- the settings that those numbers stand for, in their order
abbrev pub settings_in : List ℕ → Settings
settings_in given = record {
  mode = get_or given 0 0;
  format = get_or given 1 0;
  align = get_or given 2 0;
  active = get_or given 3 0;
  code = get_or given 4 0;
  mask = get_or given 5 0;
  events = get_or given 6 0;
  queue = get_or given 7 0;
  tx = get_or given 8 0;
  buffer = get_or given 9 0;
  site = record { offset = get_or given 10 0; second = joined (get_or given 11 0) (get_or given 12 0) };
}
