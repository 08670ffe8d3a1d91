-- The lexemes of a script (SMT-LIB 2.6, section 3.1), as far as these scripts have them: parentheses, words, text literals; blanks and comments
-- stand between them. In a literal a doubled quotation mark is one, and only printable ASCII characters may stand, as the theory of strings asks.
use Rattle.std.specs.Prelude.{ℕ, Bool, cond, ◌&&◌, ◌||◌, List, [], ◌∷◌, ◌++◌, leb, eqb}
use Rattle.paper_script.specs.Escapes.{meaning}

pub data Lexeme : Type 0 where
  opening : Lexeme
  closing : Lexeme
  word : List ℕ → Lexeme
  -- a literal, by the code points that it means
  text : List ℕ → Lexeme
  -- a byte that can't stand in a literal, or the end inside one
  unknown : Lexeme

-- where the reader stands: between lexemes, or in one that has begun with these bytes
pub data Within : Type 0 where
  between : Within
  in_comment : Within
  in_word : List ℕ → Within
  in_text : List ℕ → Within
  -- behind a quotation mark that ends the literal, unless another one follows
  behind_text : List ℕ → Within

-- what a byte brings: the lexemes that are then whole, and where the reader stands
pub record Step : Type 0 where
  pub whole : List Lexeme
  pub stands : Within

abbrev pub step : List Lexeme → Within → Step
step whole stands = record { whole = whole; stands = stands }

abbrev pub quotation_mark : ℕ
quotation_mark = 34

abbrev semicolon : ℕ
semicolon = 59

abbrev line_feed : ℕ
line_feed = 10

abbrev carriage_return : ℕ
carriage_return = 13

-- a line ends at a line feed or a carriage return, and a comment with it
abbrev pub ends_line : ℕ → Bool
ends_line b = eqb b line_feed || eqb b carriage_return

-- tab, line feed, carriage return, space
abbrev pub is_blank : ℕ → Bool
is_blank b = eqb b 32 || eqb b line_feed || eqb b 9 || eqb b carriage_return

-- space to `~`
abbrev pub is_printable : ℕ → Bool
is_printable b = leb 32 b && leb b 126

abbrev pub ends_word : ℕ → Bool
ends_word b = is_blank b || eqb b 40 || eqb b 41 || eqb b semicolon || eqb b quotation_mark

-- a byte that goes on with nothing
abbrev pub begun : ℕ → Step
begun b =
    cond (is_blank b) (step [] between)
    (cond (eqb b 40) (step (opening ∷ []) between)
    (cond (eqb b 41) (step (closing ∷ []) between)
    (cond (eqb b semicolon) (step [] in_comment)
    (cond (eqb b quotation_mark) (step [] (in_text [])) (step [] (in_word (b ∷ [])))))))

abbrev pub behind : Lexeme → Step → Step
behind l s = step (l ∷ s.whole) s.stands

abbrev pub byte_read : Within → ℕ → Step
byte_read between b = begun b
byte_read in_comment b = cond (ends_line b) (step [] between) (step [] in_comment)
byte_read (in_word w) b = cond (ends_word b) (behind (word w) (begun b)) (step [] (in_word (w ++ (b ∷ []))))
byte_read (in_text w) b =
    cond (eqb b quotation_mark) (step [] (behind_text w))
    (cond (is_printable b) (step [] (in_text (w ++ (b ∷ [])))) (step (unknown ∷ []) (in_text w)))
byte_read (behind_text w) b =
    cond (eqb b quotation_mark) (step [] (in_text (w ++ (quotation_mark ∷ [])))) (behind (text (meaning w)) (begun b))

-- where the bytes end
abbrev pub ended : Within → List Lexeme
ended between = []
ended in_comment = []
ended (in_word w) = word w ∷ []
ended (in_text w) = unknown ∷ []
ended (behind_text w) = text (meaning w) ∷ []

abbrev pub lexemes : Within → List ℕ → List Lexeme
lexemes at [] = ended at
lexemes at (b ∷ s) = let read = byte_read at b in read.whole ++ lexemes read.stands s
