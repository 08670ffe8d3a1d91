-- The search on a question, as one of the searches over any situations, and of the laws of the search those that demand 2
-- needs. The search tells situations apart by equality, since the acceptor's test of sets is equality.
use Prim.Native.Nat.{ℕ}
use mathlib.Core.Path.{◌≡◌, sym, subst}
use mathlib.Core.Bool.{true, false}
use mathlib.Core.List.{List, Memᴰ}
use Rattle.paper.proofs.base.Lists.{mem_map}
use Rattle.paper.specs.Search.{child, long, Entry, End, found, used_up, how, entries}
use Rattle.paper.specs.Leads.{Leads, start, situations}
use Rattle.paper_laws.proofs.search.Searched
use Rattle.paper.specs.Equation.{Side}
use Rattle.paper.specs.Situation.{Acceptor, Situation, Move, same_situation, children, finished, question}
use Rattle.paper.specs.Decides.{Decides}
use Rattle.paper_laws.proofs.equations.Same.{situation_equal, situation_same}
use Rattle.paper.specs.Way.{search_from}

module _ {P : Type 0} (A : Acceptor P) where
  -- how the search on a question ends
  abbrev pub end_of : ℕ → ℕ → Side → Side → End (Situation P) Move
  end_of limit room l r = how (search_from A limit room l r)

  -- situations with all their children, none finished, none with a child that is too long
  pub record UsedUp (limit : ℕ) (all : List (Situation P)) : Type 0 where
    pub unfinished : (s : Situation P) → Memᴰ s all → finished A s ≡ false
    pub not_long : (s : Situation P) → Memᴰ s all → Memᴰ long (children A limit s) → ⊥
    pub has_child : (s : Situation P) → Memᴰ s all → (m : Move) (t : Situation P) → Memᴰ (child m t) (children A limit s)
        → Memᴰ t all

module _ {P : Type 0} (A : Acceptor P) {Holds : ℕ → List ℕ → Type 0} (D : Decides A Holds) (limit room : ℕ) (l r : Side) where
  equal : (s t : Situation P) → same_situation A s t ≡ true → s ≡ t
  equal = situation_equal A D.same_equal

  same : (s : Situation P) → same_situation A s s ≡ true
  same = situation_same A D.equal_same

  -- A way leads from the question to the entry that is found, and that is finished.
  pub found_way : (e : Entry (Situation P) Move) → end_of A limit room l r ≡ found e
      → Leads (children A limit) (question A l r) e.way e.at × (finished A e.at ≡ true)
  unfolding search_from
  found_way e h =
      let d = Searched.found_entered _ _ _ equal same room (question A l r) e h in (
        Searched.way_leads _ _ _ equal same room (question A l r) e d,
        Searched.found_finished _ _ _ equal same room (question A l r) e h,
      )

  -- When all are used up, the question is one of the situations entered, and they are such.
  pub all_used_up : end_of A limit room l r ≡ used_up
      → (all : List (Situation P)) × Memᴰ (question A l r) all × UsedUp A limit all
  unfolding search_from
  all_used_up h = (
    situations all,
    Searched.used_up_reaches _ _ _ equal same room (question A l r) h start,
    record {
      unfinished = at_entry (λ (s : Situation P). finished A s ≡ false)
          (Searched.used_up_unfinished _ _ _ equal same room (question A l r) h);
      not_long = at_entry (λ (s : Situation P). Memᴰ long (children A limit s) → ⊥)
          (Searched.used_up_not_long _ _ _ equal same room (question A l r) h);
      has_child = at_entry
          (λ (s : Situation P). (m : Move) (t : Situation P) → Memᴰ (child m t) (children A limit s) → Memᴰ t (situations all))
          (Searched.used_up_closed _ _ _ equal same room (question A l r) h);
    },
  )
    where
      all : List (Entry (Situation P) Move)
      all = entries (search_from A limit room l r)

      -- what holds of every entry's situation
      at_entry : (Q : Situation P → Type 0) → ((e : Entry (Situation P) Move) → Memᴰ e all → Q e.at) → (s : Situation P)
          → Memᴰ s (situations all) → Q s
      at_entry Q k s d = let (e, i, q) = mem_map (λ (v : Entry (Situation P) Move). v.at) all d in subst Q (sym q) (k e i)
