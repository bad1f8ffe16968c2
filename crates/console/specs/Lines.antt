-- How a line comes out of the input, byte by byte and without its end, and how it is taken apart, by README, "Answers": the word that it
-- begins with, and text in hexadecimal digits. Definitions alone.
use Rattle.std.specs.Prelude.{ℕ, ◌+◌, ◌*◌, ◌-◌, ◌/◌, Bool, true, false, cond, ◌&&◌, List, [], ◌∷◌, leb, ltb, eqb, length, get_or}
use Rattle.network.specs.Records.{in_range}
use Rattle.reader.specs.File.{cr}
use Rattle.console.specs.declared.input.Cursor.{Cursor}
use Rattle.console.specs.declared.input.Step.{Step}
use Rattle.console.specs.declared.hex.Decoded.{Decoded}
use Rattle.console.specs.declared.hex.Decoded.TheVariants.{Bytes, Broken}

-- ---- a line out of the input, which comes in blocks of 4,096 bytes
-- whether a byte of the block is left
unfoldable pub byte_left : Cursor → Bool
byte_left c = ltb c.at c.filled && ltb c.at 4096

-- the byte at a place of a block that holds `filled` bytes, the input's end where it holds none, and the place behind it
unfoldable pub step_at : List ℕ → ℕ → ℕ → Step
step_at block at filled = record { ended = eqb filled 0; byte = get_or block at 0; cursor = record { at = at + 1; filled = filled } }

-- the length of a line without the CR that ends it. Of a line that fills its room, and so is too long, the end is not kept
unfoldable pub without_return : List ℕ → ℕ → ℕ
without_return line size = cond ((ltb 0 size && ltb size 140002) && eqb (get_or line (size - 1) 0) cr) (size - 1) size

-- ---- what a line says
-- whether a line begins with a word, and whether it is that word
abbrev pub begins_with : List ℕ → List ℕ → Bool
begins_with [] line = true
begins_with (w ∷ word) [] = false
begins_with (w ∷ word) (x ∷ line) = eqb x w && begins_with word line

abbrev pub is_word : List ℕ → List ℕ → Bool
is_word word line = eqb (length line) (length word) && begins_with word line

-- a byte as a hexadecimal digit, of either case; 16 where it is none
unfoldable pub hex_value : ℕ → ℕ
hex_value x = cond (in_range x 48 57) (x - 48) (cond (in_range x 65 70) (x - 55) (cond (in_range x 97 102) (x - 87) 16))

-- whether a text is pairs of digits, and the bytes that they are
abbrev pub hex_pairs : List ℕ → Bool
hex_pairs [] = true
hex_pairs (x ∷ []) = false
hex_pairs (x ∷ y ∷ rest) = (ltb (hex_value x) 16 && ltb (hex_value y) 16) && hex_pairs rest

abbrev pub hex_bytes : List ℕ → List ℕ
hex_bytes [] = []
hex_bytes (x ∷ []) = []
hex_bytes (x ∷ y ∷ rest) = (16 * hex_value x + hex_value y) ∷ hex_bytes rest

-- "HEX is a study's text in hexadecimal digits; an input line has at most 140,000 bytes": what the digits give
unfoldable pub decoded_of : List ℕ → Decoded
decoded_of digits = cond (hex_pairs digits && leb (length digits) 140000) (Bytes (length digits / 2)) Broken
