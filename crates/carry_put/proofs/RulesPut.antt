-- Rules of a catalogue put one behind the other.
--   there_within : the record of the rule in front is within the bytes; put_is : what is put of it
--   Walking      : how far they are put; the start, one more, the end
--   rules_whole  : LaidOut foreign_field s l → rules_put c (length l) s ≡ each (λ p. rule_anew c p.rule) l
--   used_short, new_short : neither the old records nor the new ones are longer than so many rules may be
-- By the definition of `rules_put`, and by induction over the rules.
use Prim.Native.Nat.{ℕ, suc, ◌+◌, ◌*◌, ◌≤◌}
use native.Mathlib.Nat.{suc-mul, add-zero}
use native.Mathlib.Omega.{arith}
use mathlib.Core.Path.{◌≡◌, refl, sym, ap, ap₂, ◌∙◌, subst}
use mathlib.Core.Bool.{false}
use mathlib.Core.List.{List, [], ◌++◌, append_assoc, append-nil}
use lib.ListN.{length, take, drop, length-append}
use lib.Seq.{drop-drop, length-take-le}
use Rattle.paper.specs.Lists.{each}
use Rattle.paper.specs.Alphabet.{edition_1}
use Rattle.paper.specs.Sheet.{Records, faulty, records}
use Rattle.paper.specs.Rule.{Rule, rule_front, foreign_field}
use Rattle.paper_catalogue.specs.Catalogue.{Present, used}
use Rattle.paper_catalogue.proofs.Local.{rule_bounds}
use Rattle.paper_catalogue.proofs.Form.{LaidOut, zeros, rule}
use Rattle.paper_catalogue.proofs.GoodRule.{rule_good}
use Rattle.read_rule.specs.RuleRead.{rule_bodies, rule_of}
use Rattle.read_rule.specs.declared.Rule as Read
use Rattle.read_rule.proofs.RulePatterns.{front_stands}
use Rattle.catalogue_form.specs.Kept.{rule_there}
use Rattle.paper_carry.specs.Spelling.{longest_rule}
use Rattle.paper_carry.proofs.Lengths.{rule_length}
use Rattle.paper_carry.proofs.SaidBack.{rule_said_back}
use Rattle.std.specs.Prelude.{Ok, Err}
use Rattle.base_answers.specs.declared.Refusal.{Refusal}
use Rattle.base_codes.specs.Inner.{side_code, padded}
use Rattle.base_question.specs.Standings.{standing_times}
use Rattle.base_put.specs.Counted.{Counted}
use Rattle.base_put.proofs.Counting.{counted_none, counted_then}
use Rattle.carry_records.specs.Changing.{InEdition}
use Rattle.carry_records.specs.declared.Change.{Change}
use Rattle.carry_put.specs.Putting.{put_whole, put_of, rule_put, bytes_there, rules_put, rule_anew}
use Rattle.carry_put.proofs.PutWhole.{have_bytes, rule_whole, rule_short}

-- The rule in front.
within_of : (s : List ℕ) (x : Records Rule) → rule_front s ≡ x → bytes_there (rule_of (rule_bodies s) x) ≤ length s
within_of s (faulty x at) e = omega arith
within_of s (records r n) e = let (low, high) = rule_bounds s e in high

pub there_within : (s : List ℕ) → bytes_there (rule_there s) ≤ length s
there_within s = within_of s (rule_front s) refl

-- what is put of it, by what was read
pub put_is : (c : Change) (s : List ℕ) (r : Read.Rule) → Ok r ≡ rule_there s → (part : List ℕ) → part ≡ take r.bytes s
    → (counts : List ℕ) → counts ≡ standing_times r.side (padded []) → put_whole c part 2 r.bodies counts ≡ rule_put c s
unfolding rule_put
put_is c s r e part i counts k =
    ap₂ (λ (p m : List ℕ). put_whole c p 2 r.bodies m) i k
    ∙ ap (put_of c s) e

-- nothing, where none was read
pub none_put : (c : Change) (s : List ℕ) (e : Refusal) → Err e ≡ rule_there s → [] ≡ rule_put c s
unfolding rule_put
none_put c s e h = ap (put_of c s) h

-- The rules before number i are put, and what is put for the others comes behind.
pub record Walking (c : Change) (before bytes : List ℕ) (end : ℕ) (s : List ℕ) (rules at i : ℕ) : Type 0 where
  pub put : List ℕ
  pub counted : Counted before bytes 0 end put
  pub left : (n : ℕ) → n + i ≡ rules → put ++ rules_put c n (drop at s) ≡ rules_put c rules s

pub walk_start : (c : Change) (bytes s : List ℕ) (rules : ℕ) → Walking c bytes bytes 0 s rules 0 0
walk_start c bytes s rules =
    record { put = []; counted = counted_none; left = λ n k. ap (λ (m : ℕ). rules_put c m s) (sym (add-zero n) ∙ k) }

module _ {c : Change} {before bytes : List ℕ} {end : ℕ} {s : List ℕ} {rules at i : ℕ} (w : Walking c before bytes end s rules at i) where
  pub walk_on : {after : List ℕ} {next further : ℕ} → further ≡ at + bytes_there (rule_there (drop at s)) → Counted bytes after end next (rule_put c (drop at s))
      → Walking c before after next s rules further (i + 1)
  walk_on e p =
      let one = rule_put c (drop at s) in
      record {
        put = w.put ++ one;
        counted = counted_then w.counted p;
        left = λ n k.
            rw (e, ← drop-drop (bytes_there (rule_there (drop at s))) at s)
            (append_assoc w.put one (rules_put c n (drop (bytes_there (rule_there (drop at s))) (drop at s))) ∙ w.left (suc n) (omega arith));
      }

  pub walk_ends : i ≡ rules → Counted before bytes 0 end (rules_put c rules s)
  walk_ends e = subst (Counted before bytes 0 end) (sym (append-nil w.put) ∙ w.left 0 (omega arith)) w.counted

-- Rules that stand, by the rule before request K13. Their records are not longer than so many rules may be.
pub used_short : {s : List ℕ} {l : List Present} → LaidOut foreign_field s l → used l ≤ length l * longest_rule
used_short (zeros z) = omega arith
used_short (rule {s = s} {r = r} {n = n} {l = l} e own rest) =
    let good = rule_good s e own in
    let (low, high) = rule_bounds s e in
    omega (
      arith,
      used_short rest,
      rule_length r.fields.held r.side good.codes good.not_own good.short,
      ap length (rule_said_back s e),
      length-take-le n s high,
      suc-mul (length l) longest_rule,
    )

module _ (c : Change) (i : InEdition edition_1 c) where
  one_whole : (s : List ℕ) {r : Rule} {n : ℕ} → rule_front s ≡ records r n → foreign_field r ≡ false → rule_put c s ≡ rule_anew c r
  unfolding rule_put
  one_whole s {r} {n} e own =
      let good = rule_good s e own in
      rw e
      (rule_whole r good c i (take n s) (rule_said_back s e) (padded (side_code r.side)) refl (rule_bodies s)
      (have_bytes edition_1 s r.fields.held (rule_bodies s) good.held.each_field (front_stands s e))
      (standing_times (padded (side_code r.side)) (padded [])) refl)

  pub rules_whole : {s : List ℕ} {l : List Present} → LaidOut foreign_field s l → rules_put c (length l) s ≡ each (λ (p : Present). rule_anew c p.rule) l
  rules_whole (zeros z) = refl
  rules_whole (rule {s = s} {l = l} e own rest) =
      ap₂ (λ (a b : List ℕ). a ++ b) (one_whole s e own)
      (ap (λ (x : Records Rule). rules_put c (length l) (drop (bytes_there (rule_of (rule_bodies s) x)) s)) e ∙ rules_whole rest)

  pub new_short : {s : List ℕ} {l : List Present} → LaidOut foreign_field s l → length (each (λ (p : Present). rule_anew c p.rule) l) ≤ length l * longest_rule
  new_short (zeros z) = omega arith
  new_short (rule {s = s} {r = r} {l = l} e own rest) =
      omega (
        arith,
        new_short rest,
        rule_short r (rule_good s e own) c i,
        length-append (rule_anew c r) (each (λ (p : Present). rule_anew c p.rule) l),
        suc-mul (length l) longest_rule,
      )
