-- What is promised of the small engine (request K9), of every reading, every bit buffer and any outcome e: it "is right by demand 2's definition
-- even where the full search has no room, and so agrees with that search wherever it answers 0, 1 or 20".
use Rattle.std.specs.Prelude.{ℕ, ◌≤◌, ◌<◌, ◌*◌, ◌≡◌, ◌⊎◌, true, false, List, length, replicate}
use Rattle.paper.specs.Equation.{Texts}
use Rattle.paper.specs.Plain.{plain}
use Rattle.paper.specs.Question.{Question, Solution}
use Rattle.paper.specs.Sheet.{Fault, fault_number, Reading, refused, asked}
use Rattle.paper.specs.Outcome.{outcome_of}
use Rattle.paper_plain.specs.Engine.{Engine, bits_of, Needs}

-- some texts solve the question, by demand 2's definition; no texts do, of any length
abbrev pub Solvable : Question → Type 0
Solvable q = (texts : Texts) × Solution q texts

-- the engine answers: no field stands twice, and the bits fit
pub record Answers (q : Question) (bits : List ℕ) : Type 0 where
  pub once : plain q.left q.right ≡ true
  pub fit : bits_of q ≤ 8 * length bits

-- the most bytes that a sheet needs: 279 standings a side, 63 leaves and the start for each of four fields, 20 characters, the end and two for
-- the hidden field
abbrev pub enough_bytes : ℕ
enough_bytes = 9731

pub record EnginePromised (r : Reading) (bits : List ℕ) (e : Engine) : Type 0 where
  -- 0 and 1 exactly where the engine answers
  pub answered : (q : Question) → r ≡ asked q → Answers q bits → (e.number ≡ 0) ⊎ (e.number ≡ 1)
  pub answers : (q : Question) → r ≡ asked q → (e.number ≡ 0) ⊎ (e.number ≡ 1) → Answers q bits
  -- "right by demand 2's definition": 0 exactly if there are texts that solve the question, 1 exactly if there are none, of any length
  pub clash : (q : Question) → r ≡ asked q → e.number ≡ 0 → Solvable q
  pub no_clash : (q : Question) → r ≡ asked q → e.number ≡ 1 → Solvable q → ⊥
  -- "and so agrees with that search wherever it answers 0, 1 or 20 (20 being a clash)", in any room and with any answer buffer
  pub agrees : (q : Question) → r ≡ asked q → Answers q bits → (work answer : List ℕ)
      → (((outcome_of r work answer).number ≡ 0) ⊎ ((outcome_of r work answer).number ≡ 20) → e.number ≡ 0)
      × ((outcome_of r work answer).number ≡ 1 → e.number ≡ 1)
  -- "42 if a field stands more than once in the two sides together", and only then
  pub twice : (q : Question) → r ≡ asked q → plain q.left q.right ≡ false → e.number ≡ 42
  pub twice_only : (q : Question) → r ≡ asked q → e.number ≡ 42 → plain q.left q.right ≡ false
  -- "then 43 if the bits don't fit", and only then; which buffer is always enough
  pub too_few : (q : Question) → r ≡ asked q → plain q.left q.right ≡ true → 8 * length bits < bits_of q → e.number ≡ 43
  pub too_few_only : (q : Question) → r ≡ asked q → e.number ≡ 43 → (plain q.left q.right ≡ true) × (8 * length bits < bits_of q)
  pub enough : (q : Question) → r ≡ asked q → enough_bytes ≤ length bits → e.number ≡ 43 → ⊥
  -- "the bit buffer ends all zero after every answer but the sheet's own refusals"
  pub cleared : (q : Question) → r ≡ asked q → e.bits ≡ replicate (length bits) 0
  pub refuses : (x : Fault) (at : ℕ) → r ≡ refused x at → (e.number ≡ fault_number x) × (e.place ≡ at) × (e.bits ≡ bits)
  pub no_count : e.count ≡ 0
  pub no_place : (q : Question) → r ≡ asked q → e.place ≡ 0

-- Which buffer is long enough for a sheet: exactly those that have the bytes it is said to need. "The sheet's own refusals and 42".
pub record NeedsPromised (r : Reading) (n : Needs) : Type 0 where
  pub once : (q : Question) → r ≡ asked q → plain q.left q.right ≡ true → n.number ≡ 0
  pub enough : (q : Question) → r ≡ asked q → n.number ≡ 0 → (bits : List ℕ) → n.bytes ≤ length bits → bits_of q ≤ 8 * length bits
  pub needed : (q : Question) → r ≡ asked q → n.number ≡ 0 → (bits : List ℕ) → bits_of q ≤ 8 * length bits → n.bytes ≤ length bits
  pub twice : (q : Question) → r ≡ asked q → plain q.left q.right ≡ false → (n.number ≡ 42) × (n.bytes ≡ 0)
  pub refuses : (x : Fault) (at : ℕ) → r ≡ refused x at → (n.number ≡ fault_number x) × (n.place ≡ at) × (n.bytes ≡ 0)
  pub no_place : (q : Question) → r ≡ asked q → n.place ≡ 0
  pub most : n.bytes ≤ enough_bytes
