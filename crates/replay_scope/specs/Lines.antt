-- Lines: `key=` and 16 lowercase hex digits, LF; how one is read, and how one is written. 01, Replay program.
use Rattle.std.specs.Prelude.{ℕ, zero, suc, ◌+◌, ◌-◌, ◌*◌, ◌/◌, ◌%◌, ◌^◌, List, [], ◌∷◌, ◌++◌, eqb, ltb, drop, get_or, length, take}
use Prim.Native.Char.{code}
use Prim.Native.String.{String, [] as none, ◌∷◌ as ◌then◌}
use Rattle.isa_types.specs.Pick.{pick}
use Rattle.replay_scope.specs.declared.Got.{Got}
use Rattle.replay_scope.specs.declared.Got.TheVariants as got
use Rattle.replay_scope.specs.declared.Place.{Place}
use Rattle.replay_scope.specs.declared.Place.TheVariants as place

-- the bytes of a text
abbrev pub bytes : String → List ℕ
bytes none = []
bytes (c then s) = code c ∷ bytes s

-- the four bytes at i * 4
abbrev pub four_at : List ℕ → ℕ → List ℕ
four_at l i = take 4 (drop (i * 4) l)

-- 01, Replay program: x01 to x31, four bytes each
unfoldable pub register_keys : List ℕ
register_keys =
    bytes "x01=x02=x03=x04=x05=x06=x07=x08=x09=x10=x11=x12=x13=x14=x15=x16=x17=x18=x19=x20=x21=x22=x23=x24=x25=x26=x27=x28=x29=x30=x31="

-- 01, Replay program: the header's 33 lines; the header has no line 33 or above, and those would have no key
unfoldable pub header_key : ℕ → List ℕ
header_key i =
    pick (eqb i 0) (bytes "sepc=") (pick (eqb i 1) (bytes "vstimecmp=") (four_at register_keys (i - 2)))

-- 01, Replay program: each key's fixed spelling
unfoldable pub key_of : Place → List ℕ
key_of (place.Header i) = header_key i
key_of place.Scause = bytes "scause="
key_of place.Stval = bytes "stval="
key_of place.Htval = bytes "htval="
key_of place.Htinst = bytes "htinst="
key_of place.Word = bytes "word="
key_of place.More = bytes "more="

-- what a byte is as a digit: 0 to 9 stand from 48 on, a to f from 97 on; 16 if it is none
unfoldable pub nibble_of : ℕ → ℕ
nibble_of b = pick (ltb b 48) 16 (pick (ltb b 58) (b - 48) (pick (ltb b 97) 16 (pick (ltb b 103) (b - 87) 16)))

-- one digit more behind a number, in 64 bits; of d its low four
unfoldable pub push_of : ℕ → ℕ → ℕ
push_of v d = v % 2 ^ 60 * 16 + d % 16

-- 01, Replay program: one byte more of a line, of which `at` bytes gave the number v: the key's own byte, then a digit,
-- then LF; every other byte is unfit
unfoldable pub line_of : List ℕ → ℕ → ℕ → ℕ → Got
line_of key at v b =
    pick (ltb at (length key)) (pick (eqb b (get_or key at 0)) (got.More (at + 1) v) got.Unfit)
    (pick (ltb (at - length key) 16)
    (pick (ltb (nibble_of b) 16) (got.More (at + 1) (push_of v (nibble_of b))) got.Unfit)
    (pick (eqb b 10) (got.Whole v) got.Unfit))

-- the byte of a digit
abbrev pub glyph : ℕ → ℕ
glyph d = pick (ltb d 10) (48 + d) (87 + d)

-- the last n digits of a number, the first of them in front
abbrev pub last_digits : ℕ → ℕ → List ℕ
last_digits zero v = []
last_digits (suc n) v = last_digits n (v / 16) ++ (glyph (v % 16) ∷ [])

-- the sixteen digits of a number
unfoldable pub sixteen : ℕ → List ℕ
sixteen v = last_digits 16 v

-- 01, Replay program: the text of a line
unfoldable pub line_text : List ℕ → ℕ → List ℕ
line_text key v = key ++ (sixteen v ++ (10 ∷ []))
