-- An instruction or none, in one number. Source: own.
use Rattle.std.specs.Prelude.{ℕ, ◌-◌, ◌^◌, ◌==◌, Option, Some, None, if◌then◌else◌}

-- 2^32 - 1, which no instruction has, stands for none
abbrev pub inst_of_number : ℕ → Option ℕ
inst_of_number number = if number == 2 ^ 32 - 1 then None else Some number
