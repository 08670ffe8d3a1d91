-- Known scripts: the checker computes two of the first edition and one of the second, reads some back and one in another layout, and refuses others.
-- And known answers: a buffer that fits exactly, one of a byte less, a sheet that is cut short, one with a stray pattern, and one that begins with `ED`.
use Prim.Native.Nat.{ℕ}
use mathlib.Core.Path.{◌≡◌, refl}
use mathlib.Core.List.{List, [], ◌∷◌, ◌++◌, map}
use lib.ListN.{replicate}
use Rattle.paper.specs.Pattern.{char, range, leaf, empty, then, either, many, some_text, pattern}
use Rattle.paper.specs.Equation.{chr, fld}
use Rattle.paper.specs.Alphabet.{code_39, full_ascii, edition_1, edition_2, code}
use Rattle.paper.specs.Question.{Question}
use Rattle.paper_script.specs.Language.{to_re, span, concat, union, star}
use Rattle.paper_script.specs.Bytes.{bytes}
use Rattle.paper_script.specs.Reader.{code_point, constant, set_logic, declare_const, in_re, equal, check_sat, no_script, commands, read_script}
use Rattle.paper.specs.Written.{judge}
use Rattle.paper.specs.Sheet.{edition_front, strays_of, read_by, read_sheet, read_end, marked_side, side_record, pattern_record, next_is, marked}
use Rattle.paper_script.specs.Escapes.{meaning}
use Rattle.paper_script.specs.Script.{escaped, character, one_character, range_expression, field_lines, all_standing, equation, script, longest_script}
use Rattle.paper_script.specs.Scripting.{scripting_told, scripting}

-- `Lt`x and x`4`, where x is 0, or Z or -, or ., any number of times
abbrev latch : Question
latch =
    record {
      alphabet = code_39;
      left = chr 21 ∷ chr 29 ∷ fld 0 ∷ [];
      right = fld 0 ∷ chr 4 ∷ [];
      held =
          pattern (many (either (leaf (char 0)) (either (then (leaf (range 35 36)) empty) (leaf (range 37 37)))))
          ∷ some_text ∷ [];
    }

script_of_latch : script latch
    ≡ bytes "; Do two label rules clash? sat: they do. unsat: they don't.\n"
    ++ bytes "; Fields 8 and 9 are the spaces at the end of the left and the right label.\n"
    ++ bytes "(set-logic QF_S)\n"
    ++ bytes "; field 0\n(declare-const f0 String)\n"
    ++ bytes "(assert (str.in_re f0 (re.* (re.union (str.to_re \"0\") "
    ++ bytes "(re.union (re.++ (re.union (str.to_re \"Z\") (str.to_re \"-\")) (str.to_re \"\")) (str.to_re \".\"))))))\n"
    ++ bytes "; field 8\n(declare-const f8 String)\n(assert (str.in_re f8 (re.* (str.to_re \" \"))))\n"
    ++ bytes "; field 9\n(declare-const f9 String)\n(assert (str.in_re f9 (re.* (str.to_re \" \"))))\n"
    ++ bytes "(assert (= (str.++ \"LT\" f0 f8) (str.++ f0 \"4\" f9)))\n(check-sat)\n"
unfolding character one_character range_expression field_lines all_standing equation script
script_of_latch = refl

latch_read : read_script (script latch)
    ≡ commands (
    set_logic (bytes "QF_S")
    ∷ declare_const (bytes "f0")
    ∷ in_re (bytes "f0")
    (star (union (to_re (bytes "0")) (union (concat (union (to_re (bytes "Z")) (to_re (bytes "-"))) (to_re [])) (to_re (bytes ".")))))
    ∷ declare_const (bytes "f8")
    ∷ in_re (bytes "f8") (star (to_re (bytes " ")))
    ∷ declare_const (bytes "f9")
    ∷ in_re (bytes "f9") (star (to_re (bytes " ")))
    ∷ equal (map code_point (bytes "LT") ++ (constant (bytes "f0") ∷ constant (bytes "f8") ∷ []))
    (constant (bytes "f0") ∷ code_point 52 ∷ constant (bytes "f9") ∷ [])
    ∷ check_sat
    ∷ [])
unfolding character one_character range_expression field_lines all_standing equation script read_script
latch_read = refl

-- nothing, and x, a space and `Z`, where x is open
abbrev blank : Question
blank =
    record {
      alphabet = code_39;
      left = [];
      right = fld 2 ∷ chr 38 ∷ chr 35 ∷ [];
      held = pattern empty ∷ some_text ∷ some_text ∷ [];
    }

script_of_blank : script blank
    ≡ bytes "; Do two label rules clash? sat: they do. unsat: they don't.\n"
    ++ bytes "; Fields 8 and 9 are the spaces at the end of the left and the right label.\n"
    ++ bytes "(set-logic QF_S)\n"
    ++ bytes "; field 2\n(declare-const f2 String)\n"
    ++ bytes "(assert (str.in_re f2 (re.++ (re.union"
    ++ bytes " (str.to_re \"0\") (str.to_re \"1\") (str.to_re \"2\") (str.to_re \"3\") (str.to_re \"4\")"
    ++ bytes " (str.to_re \"5\") (str.to_re \"6\") (str.to_re \"7\") (str.to_re \"8\") (str.to_re \"9\")"
    ++ bytes " (str.to_re \"A\") (str.to_re \"B\") (str.to_re \"C\") (str.to_re \"D\") (str.to_re \"E\")"
    ++ bytes " (str.to_re \"F\") (str.to_re \"G\") (str.to_re \"H\") (str.to_re \"I\") (str.to_re \"J\")"
    ++ bytes " (str.to_re \"K\") (str.to_re \"L\") (str.to_re \"M\") (str.to_re \"N\") (str.to_re \"O\")"
    ++ bytes " (str.to_re \"P\") (str.to_re \"Q\") (str.to_re \"R\") (str.to_re \"S\") (str.to_re \"T\")"
    ++ bytes " (str.to_re \"U\") (str.to_re \"V\") (str.to_re \"W\") (str.to_re \"X\") (str.to_re \"Y\")"
    ++ bytes " (str.to_re \"Z\") (str.to_re \"-\") (str.to_re \".\") (str.to_re \" \") (str.to_re \"$\")"
    ++ bytes " (str.to_re \"/\") (str.to_re \"+\") (str.to_re \"%\")"
    ++ bytes ") (re.* (re.union"
    ++ bytes " (str.to_re \"0\") (str.to_re \"1\") (str.to_re \"2\") (str.to_re \"3\") (str.to_re \"4\")"
    ++ bytes " (str.to_re \"5\") (str.to_re \"6\") (str.to_re \"7\") (str.to_re \"8\") (str.to_re \"9\")"
    ++ bytes " (str.to_re \"A\") (str.to_re \"B\") (str.to_re \"C\") (str.to_re \"D\") (str.to_re \"E\")"
    ++ bytes " (str.to_re \"F\") (str.to_re \"G\") (str.to_re \"H\") (str.to_re \"I\") (str.to_re \"J\")"
    ++ bytes " (str.to_re \"K\") (str.to_re \"L\") (str.to_re \"M\") (str.to_re \"N\") (str.to_re \"O\")"
    ++ bytes " (str.to_re \"P\") (str.to_re \"Q\") (str.to_re \"R\") (str.to_re \"S\") (str.to_re \"T\")"
    ++ bytes " (str.to_re \"U\") (str.to_re \"V\") (str.to_re \"W\") (str.to_re \"X\") (str.to_re \"Y\")"
    ++ bytes " (str.to_re \"Z\") (str.to_re \"-\") (str.to_re \".\") (str.to_re \" \") (str.to_re \"$\")"
    ++ bytes " (str.to_re \"/\") (str.to_re \"+\") (str.to_re \"%\")"
    ++ bytes ")))))\n"
    ++ bytes "; field 8\n(declare-const f8 String)\n(assert (str.in_re f8 (re.* (str.to_re \" \"))))\n"
    ++ bytes "; field 9\n(declare-const f9 String)\n(assert (str.in_re f9 (re.* (str.to_re \" \"))))\n"
    ++ bytes "(assert (= f8 (str.++ f2 \" Z\" f9)))\n(check-sat)\n"
unfolding character one_character range_expression field_lines all_standing equation script
script_of_blank = refl

-- The second edition (request K10): a quotation mark, a backslash and `u{41}`, NUL, x, and `~`, DEL, y; x is one of space to `!`, and then any of
-- NUL to `"`, one of `[` to `\` and one of `~` to DEL; y is open.
abbrev ascii : Question
ascii =
    record {
      alphabet = full_ascii;
      left = chr 34 ∷ chr 92 ∷ chr 117 ∷ chr 123 ∷ chr 52 ∷ chr 49 ∷ chr 125 ∷ chr 0 ∷ fld 0 ∷ [];
      right = chr 126 ∷ chr 127 ∷ fld 1 ∷ [];
      held =
          pattern (then (leaf (range 32 33)) (then (many (leaf (range 0 34))) (then (leaf (range 91 92)) (leaf (range 126 127)))))
          ∷ some_text ∷ [];
    }

script_of_ascii : script ascii
    ≡ bytes "; Do two label rules clash? sat: they do. unsat: they don't.\n"
    ++ bytes "; Fields 8 and 9 are the spaces at the end of the left and the right label.\n"
    ++ bytes "(set-logic QF_S)\n"
    ++ bytes "; field 0\n(declare-const f0 String)\n"
    ++ bytes "(assert (str.in_re f0 (re.++ (re.range \" \" \"!\") (re.++ (re.* (re.range \"\\u{0}\" \"\"\"\"))"
    ++ bytes " (re.++ (re.range \"[\" \"\\u{5c}\") (re.range \"~\" \"\\u{7f}\"))))))\n"
    ++ bytes "; field 1\n(declare-const f1 String)\n"
    ++ bytes "(assert (str.in_re f1 (re.++ (re.range \"\\u{0}\" \"\\u{7f}\") (re.* (re.range \"\\u{0}\" \"\\u{7f}\")))))\n"
    ++ bytes "; field 8\n(declare-const f8 String)\n(assert (str.in_re f8 (re.* (str.to_re \" \"))))\n"
    ++ bytes "; field 9\n(declare-const f9 String)\n(assert (str.in_re f9 (re.* (str.to_re \" \"))))\n"
    ++ bytes "(assert (= (str.++ \"\"\"\\u{5c}u{41}\\u{0}\" f0 f8) (str.++ \"~\\u{7f}\" f1 f9)))\n(check-sat)\n"
unfolding escaped character one_character range_expression field_lines all_standing equation script
script_of_ascii = refl

ascii_read : read_script (script ascii)
    ≡ commands (
    set_logic (bytes "QF_S")
    ∷ declare_const (bytes "f0")
    ∷ in_re (bytes "f0")
    (concat (span (32 ∷ []) (33 ∷ []))
    (concat (star (span (0 ∷ []) (34 ∷ []))) (concat (span (91 ∷ []) (92 ∷ [])) (span (126 ∷ []) (127 ∷ [])))))
    ∷ declare_const (bytes "f1")
    ∷ in_re (bytes "f1") (concat (span (0 ∷ []) (127 ∷ [])) (star (span (0 ∷ []) (127 ∷ []))))
    ∷ declare_const (bytes "f8")
    ∷ in_re (bytes "f8") (star (to_re (bytes " ")))
    ∷ declare_const (bytes "f9")
    ∷ in_re (bytes "f9") (star (to_re (bytes " ")))
    ∷ equal (map code_point (34 ∷ 92 ∷ 117 ∷ 123 ∷ 52 ∷ 49 ∷ 125 ∷ 0 ∷ []) ++ (constant (bytes "f0") ∷ constant (bytes "f8") ∷ []))
    (code_point 126 ∷ code_point 127 ∷ constant (bytes "f1") ∷ constant (bytes "f9") ∷ [])
    ∷ check_sat
    ∷ [])
unfolding escaped character one_character range_expression field_lines all_standing equation script read_script
ascii_read = refl

-- One character is no range, in either edition; the first has no `re.range`.
single_ranges : range_expression edition_1 10 10 ++ range_expression edition_2 10 10 ++ range_expression edition_1 10 11
    ≡ bytes "(str.to_re \"A\")(str.to_re \"\\u{a}\")(re.union (str.to_re \"A\") (str.to_re \"B\"))"
unfolding escaped character one_character range_expression
single_ranges = refl

-- The standard's escapes: one to five digits in braces, of either case; four without braces; what is none stands for itself.
escapes_meant : map meaning (
    bytes "\\u{41}\\u{0041}\\u{2FfFf}\\u{5}"
    ∷ bytes "\\u0041B\\u00e9"
    ∷ bytes "\\u{}\\u{30000}\\u{000041}\\u{4g}"
    ∷ bytes "\\\\u{41}\\n\\u41g\\"
    ∷ bytes "\\u{4"
    ∷ [])
    ≡ (65 ∷ 65 ∷ 196607 ∷ 5 ∷ [])
    ∷ (65 ∷ 66 ∷ 233 ∷ [])
    ∷ bytes "\\u{}\\u{30000}\\u{000041}\\u{4g}"
    ∷ bytes "\\A\\n\\u41g\\"
    ∷ bytes "\\u{4"
    ∷ []
escapes_meant = refl

-- Another layout: other blanks, comments elsewhere, more arguments, a quotation mark in a literal, a parenthesis and a semicolon in another.
abbrev crowded : List ℕ
crowded =
    bytes "(set-logic\tQF_S);the logic\n\r(declare-const x String)(declare-const y1\n  String )"
    ++ bytes "( assert(str.in_re x(re.union(str.to_re \"A\")(str.to_re ; a \"comment\" (\n \"B\"\"\")"
    ++ bytes " (re.++ (str.to_re \"\") (re.* (str.to_re \"CD\"))(str.to_re \"E\")))))"
    ++ bytes "(assert (= \"a\"\"b\"(str.++ x \"\" y1 \"(;)\")))\n\n(check-sat); no line feed behind this"

crowded_read : read_script crowded
    ≡ commands (
    set_logic (bytes "QF_S")
    ∷ declare_const (bytes "x")
    ∷ declare_const (bytes "y1")
    ∷ in_re (bytes "x")
    (union (union (to_re (bytes "A")) (to_re (bytes "B\""))) (concat (concat (to_re []) (star (to_re (bytes "CD")))) (to_re (bytes "E"))))
    ∷ equal (map code_point (bytes "a\"b")) (constant (bytes "x") ∷ constant (bytes "y1") ∷ map code_point (bytes "(;)"))
    ∷ check_sat
    ∷ [])
unfolding read_script
crowded_read = refl

-- A comment ends at a carriage return too.
behind_a_return : read_script (bytes "; a comment\r(check-sat); another\r\n(check-sat)") ≡ commands (check_sat ∷ check_sat ∷ [])
unfolding read_script
behind_a_return = refl

-- What is not read.
abbrev garbled_scripts : List (List ℕ)
garbled_scripts =
    -- a union, and a sum, of one
    bytes "(assert (str.in_re f0 (re.union (str.to_re \"A\"))))"
    ∷ bytes "(assert (= f0 (str.++ f1)))"
    -- a byte that can't stand in a literal, in a text, in a term and in a sum
    ∷ bytes "(assert (str.in_re f0 (str.to_re \"\n\")))"
    ∷ bytes "(assert (= f0 \"A\t\"))"
    ∷ (bytes "(assert (= f0 (str.++ f1 \"" ++ (127 ∷ bytes "\")))"))
    -- a range with one end, and of a constant
    ∷ bytes "(assert (str.in_re f0 (re.range \"A\")))"
    ∷ bytes "(assert (str.in_re f0 (re.range \"A\" f1)))"
    -- another operator, term, relation, sort and command
    ∷ bytes "(assert (str.in_re f0 (re.inter (str.to_re \"A\") (str.to_re \"B\"))))"
    ∷ bytes "(assert (= f0 (str.at f1 f2)))"
    ∷ bytes "(assert (str.prefixof f0 (str.to_re \"A\")))"
    ∷ bytes "(declare-const f0 Int)"
    ∷ bytes "(get-model)"
    -- a constant for a text, and a text for a word
    ∷ bytes "(assert (str.in_re f0 (str.to_re f1)))"
    ∷ bytes "(\"check-sat\")"
    -- a parenthesis too few or too many; the end in a word, behind a text and in a text
    ∷ bytes "(assert (= f0 (str.at))"
    ∷ bytes "(assert (= f0 (str.++ f1))))"
    ∷ bytes "(check-sat x"
    ∷ bytes "(check-sat))"
    ∷ bytes "(check-sat)x"
    ∷ bytes "(check-sat)\"A\""
    ∷ bytes "(check-sat\""
    ∷ bytes "(check-sat)\"A"
    ∷ []

none_read : map read_script garbled_scripts ≡ replicate 22 no_script
unfolding read_script
none_read = refl

-- 280,000 bytes are always enough.
enough_bytes : longest_script ≡ 280000
enough_bytes = refl

-- the sheet of two empty sides, whose script has 351 bytes
abbrev empty_sides : List ℕ
empty_sides = 76 ∷ 69 ∷ 0 ∷ 82 ∷ 73 ∷ 0 ∷ []

exact_room : scripting empty_sides (replicate 351 0) ≡ scripting_told 0 0 351 (script (record { alphabet = code_39; left = []; right = []; held = replicate 8 some_text }))
unfolding character one_character range_expression field_lines all_standing equation script scripting code edition_front read_by strays_of read_sheet read_end marked_side side_record next_is marked
exact_room = refl

one_less : scripting empty_sides (replicate 350 1) ≡ scripting_told 40 0 0 (replicate 350 1)
unfolding character one_character range_expression field_lines all_standing equation script scripting code edition_front read_by strays_of read_sheet read_end marked_side side_record next_is marked
one_less = refl

cut_short : scripting (76 ∷ 69 ∷ []) [] ≡ scripting_told 11 2 0 []
unfolding scripting code edition_front read_by strays_of read_sheet read_end marked_side side_record next_is marked
cut_short = refl

-- field 0 has a pattern and doesn't stand: before a buffer that is too short
stray : scripting (80 ∷ 65 ∷ 0 ∷ 1 ∷ 4 ∷ empty_sides) [] ≡ scripting_told 22 0 0 []
unfolding judge pattern_record scripting code edition_front read_by strays_of read_sheet read_end marked_side side_record next_is marked
stray = refl

-- behind `ED` and the byte 2 the left side is a quotation mark, the right one DEL
behind_edition : scripting (69 ∷ 68 ∷ 2 ∷ 76 ∷ 69 ∷ 1 ∷ 34 ∷ 82 ∷ 73 ∷ 1 ∷ 127 ∷ []) (replicate 383 0)
    ≡ scripting_told 0 0 383 (script (record { alphabet = full_ascii; left = chr 34 ∷ []; right = chr 127 ∷ []; held = replicate 8 some_text }))
unfolding escaped character one_character range_expression field_lines all_standing equation script scripting code edition_front read_by strays_of read_sheet read_end marked_side side_record next_is marked
behind_edition = refl
