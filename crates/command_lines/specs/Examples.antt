-- Worked lines, checked by computation: 01's and 02's commands and the edges of 'ill-formed'. Quoted `\t` is a tab.
use Rattle.std.specs.Prelude.{ℕ, zero, suc, ◌≡◌, refl, cond, List, [], ◌∷◌, map, Option, None, Some, replicate}
use Prim.Native.String.{String}
use Rattle.texts.specs.Ascii.{text}
use Rattle.command_fields.specs.declared.Command.{Command}
use Rattle.command_fields.specs.declared.Command.TheVariants.{SetUp, Insert, Delete, Write, Begin, BeginNext, Turn, GiveUp, Show, Page}
use Rattle.command_fields.specs.Commands.{first_field, other_fields, is_digit, all_digits, value_after, number_of, with_none, with_one, with_two, command_of, is_ill}

commands_of : List String → List (Option Command)
commands_of [] = []
commands_of (s ∷ ss) = command_of (text s) ∷ commands_of ss

well-formed :
    commands_of ("P\t8" ∷ "I\t3\t30" ∷ "D\t007" ∷ "W" ∷ "B\t0\t1" ∷ "S\t7\t2" ∷ "R\t0" ∷ "E\t4294967295" ∷ "T" ∷ "L" ∷ [])
    ≡ map Some (SetUp 8 ∷ Insert 3 30 ∷ Delete 7 ∷ Write ∷ Begin 0 1 ∷ BeginNext 7 2 ∷ Turn 0 ∷ GiveUp 4294967295 ∷ Show ∷ Page ∷ [])
unfolding commands_of first_field other_fields is_digit all_digits value_after number_of with_none with_one with_two command_of
well-formed = refl

-- no letter; missing, extra and empty fields; a tab at the end; blanks, CR and other bytes; two letters; a small one; too large
ill-formed :
    commands_of ("" ∷ "P" ∷ "P\t1\t2" ∷ "I\t1" ∷ "I\t\t1" ∷ "W\t" ∷ "P 8" ∷ "W\r" ∷ "P\t+8" ∷ "PP\t8" ∷ "p\t8" ∷ "P\t4294967296" ∷ [])
    ≡ replicate 12 None
unfolding commands_of first_field other_fields is_digit all_digits value_after number_of with_none with_one with_two command_of
ill-formed = refl

-- the bytes next to the digits; a second field that is no number; a third field
ill-fields :
    commands_of ("P\t8:" ∷ "P\t/8" ∷ "D\t1\t" ∷ "D\t1\tx" ∷ "I\t1\t" ∷ "I\t1\t2x" ∷ "I\t1\t2\t3" ∷ "B\t0\t1\t" ∷ []) ≡ replicate 8 None
unfolding commands_of first_field other_fields is_digit all_digits value_after number_of with_none with_one with_two command_of
ill-fields = refl

-- 02, C-18: a record may be any number of 64 bits, and none above; every other number has 32 bits
wide-records :
    commands_of ("I\t4294967295\t4294967295" ∷ "I\t0\t4294967296" ∷ "I\t1\t18446744073709551615" ∷ "I\t1\t00018446744073709551615"
    ∷ "I\t1\t10000000000000000000" ∷ "B\t4294967295\t4294967295" ∷ "S\t4294967295\t4294967295" ∷ "P\t4294967295" ∷ [])
    ≡ map Some (Insert 4294967295 4294967295 ∷ Insert 0 4294967296 ∷ Insert 1 18446744073709551615 ∷ Insert 1 18446744073709551615
    ∷ Insert 1 10000000000000000000 ∷ Begin 4294967295 4294967295 ∷ BeginNext 4294967295 4294967295 ∷ SetUp 4294967295 ∷ [])
unfolding commands_of first_field other_fields is_digit all_digits value_after number_of with_none with_one with_two command_of
wide-records = refl

too_wide :
    commands_of ("I\t1\t18446744073709551616" ∷ "I\t1\t18446744073709551620" ∷ "I\t1\t20000000000000000000" ∷ "I\t1\t100000000000000000000"
    ∷ "I\t4294967296\t1" ∷ "I\t18446744073709551615\t1" ∷ "B\t0\t4294967296" ∷ "B\t4294967296\t0" ∷ "S\t0\t4294967296" ∷ "S\t4294967296\t0"
    ∷ "P\t18446744073709551615" ∷ "D\t4294967296" ∷ "R\t4294967296" ∷ "E\t4294967296" ∷ [])
    ≡ replicate 14 None
unfolding commands_of first_field other_fields is_digit all_digits value_after number_of with_none with_one with_two command_of
too_wide = refl

-- L, which has no field
ill-formed-page :
    commands_of ("L\t" ∷ "L\t1" ∷ "L\t1\t2" ∷ "L\t1\t2\t3" ∷ "L " ∷ "L\r" ∷ "LL" ∷ "l" ∷ " L" ∷ "\tL" ∷ []) ≡ replicate 10 None
unfolding commands_of first_field other_fields is_digit all_digits value_after number_of with_none with_one with_two command_of
ill-formed-page = refl

-- The bytes from b on, so many of them, that begin a command's line with these bytes after it. Of all bytes these are the letters of a command
-- with no field, with one and with two.
letters_from : (b count : ℕ) → List ℕ → List ℕ
letters_from b zero t = []
letters_from b (suc k) t = cond (is_ill (command_of (b ∷ t))) (letters_from (suc b) k t) (b ∷ letters_from (suc b) k t)

letters-none : letters_from 0 256 [] ≡ text "LTW"
unfolding letters_from first_field other_fields is_digit all_digits value_after number_of with_none with_one with_two command_of
letters-none = refl

letters-one : letters_from 0 256 (text "\t1") ≡ text "DEPR"
unfolding letters_from first_field other_fields is_digit all_digits value_after number_of with_none with_one with_two command_of
letters-one = refl

letters-two : letters_from 0 256 (text "\t1\t2") ≡ text "BIS"
unfolding letters_from first_field other_fields is_digit all_digits value_after number_of with_none with_one with_two command_of
letters-two = refl
