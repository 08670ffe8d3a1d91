-- The numbers of document 01, each once. A later request that changes one changes it here.
-- The meaning (texts, patterns, situations, the search) is stated over any such numbers and names none of them.
use Rattle.std.specs.Prelude.{ℕ}

-- "Code 39, by value": 0 to 42
abbrev pub characters : ℕ
characters = 43

-- "field byte 0 to 7"
abbrev pub fields : ℕ
fields = 8

-- "one hidden field, of any number of spaces, .. field 8 on the left and 9 on the right" (request K3)
abbrev pub hidden_left : ℕ
hidden_left = 8

abbrev pub hidden_right : ℕ
hidden_right = 9

-- the fields that a situation has place sets for: those that a sheet may name, and the hidden ones
abbrev pub set_fields : ℕ
set_fields = 10

-- the value of the space in Code 39
abbrev pub space : ℕ
space = 38

-- "Characters are then 0 to 127": Full ASCII has the most (request K10)
abbrev pub most_characters : ℕ
most_characters = 128

-- What a byte of a pattern or of a side says, as one code for both editions (`Alphabet.code`): a character is its value, and the others are 192 to
-- 199, in 01's order; any other byte is 255. "A token is 0 to 42 (a character) or 64 to 71 (field 0 to 7)": the code of field 0
abbrev pub field_token : ℕ
field_token = 192

abbrev pub not_a_code : ℕ
not_a_code = 255

-- the codes of a pattern, operator first: "64: the empty text", 65 a range, 66 A then B, 67 A or B, 68 A any number of times
abbrev pub empty_code : ℕ
empty_code = 192

abbrev pub range_code : ℕ
range_code = 193

abbrev pub then_code : ℕ
then_code = 194

abbrev pub or_code : ℕ
or_code = 195

abbrev pub many_code : ℕ
many_code = 196

-- "a pattern length up to 192" (request K7)
abbrev pub pattern_bytes : ℕ
pattern_bytes = 192

-- "Allow 63 leaves, which with the start make 64 places" (request K7)
abbrev pub most_leaves : ℕ
most_leaves = 63

-- "length byte 0 to 24"
abbrev pub sheet_side : ℕ
sheet_side = 24

-- "a side above 48 tokens gives 19"
abbrev pub longest_side : ℕ
longest_side = 48

-- "Room is one situation for each whole" 184 "bytes of working buffer, and at most 65,535" (request K7: "A situation then takes 184 bytes")
abbrev pub situation_bytes : ℕ
situation_bytes = 184

abbrev pub most_room : ℕ
most_room = 65535

-- "So a text can't pass 65,534 characters" (request K12)
abbrev pub longest_text : ℕ
longest_text = 65534

-- "its own fields, numbered 0 to 3"
abbrev pub rule_fields : ℕ
rule_fields = 4

-- "a catalogue of up to 32 rules"
abbrev pub catalogue_rules : ℕ
catalogue_rules = 32

-- "`clash` .. lends 65,520 bytes of work .. and 4,096 of answer"; "the program's 65,520 hold 356; it reads 2,048 bytes of input" (request K7)
abbrev pub program_input : ℕ
program_input = 2048

abbrev pub program_work : ℕ
program_work = 65520

abbrev pub program_answer : ℕ
program_answer = 4096
