-- A field is read a byte at a time.
use Rattle.std.specs.Prelude.{ℕ, ◌+◌, ◌*◌, ◌-◌, cond, ltb}
use Prim.Native.Char.{code}
use Rattle.command_fields.specs.declared.Field.{Field}
use Rattle.command_fields.specs.declared.Field.TheVariants.{Empty, Number, Wrong}
use Rattle.spec.specs.Numbers.{record_limit}
use Rattle.command_fields.specs.Commands.{is_digit}

-- a number after one digit more
unfoldable pub with_digit : ℕ → ℕ → Field
with_digit v b = cond (ltb (v * 10 + (b - code "0")) record_limit) (Number (v * 10 + (b - code "0"))) Wrong

abbrev pub digit_taken : Field → ℕ → Field
digit_taken Empty b = with_digit 0 b
digit_taken (Number v) b = with_digit v b
digit_taken Wrong b = Wrong

unfoldable pub field_taken : Field → ℕ → Field
field_taken f b = cond (is_digit b) (digit_taken f b) Wrong
