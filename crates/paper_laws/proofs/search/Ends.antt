-- Every search ends, and its end says of the entries what `Ended` has.
-- Follows, by one invariant of the states, from the definition of the search and from the laws of the test `same`.
use Prim.Native.Nat.{ℕ, zero, suc, ◌+◌, ◌<◌}
use native.Mathlib.Nat.{zero-add, suc-add, add-suc}
use native.Mathlib.Omega.{arith}
use mathlib.Core.Path.{◌≡◌, refl, sym, subst}
use mathlib.Core.Logic.{◌⊎◌, inl, inr, ⊎_elim}
use mathlib.Core.Bool.{Bool, true, false}
use mathlib.Core.List.{List, [], ◌∷◌, ◌++◌, append-nil, append_assoc}
use mathlib.Core.List.{Memᴰ}
use lib.Dec.{leb}
use lib.ListN.{length, length-append}
use Rattle.paper.proofs.base.Tests.{cond_by, leb_true, leb_false, true_false}
use Rattle.paper.proofs.base.Lists.{any_true, any_false, map_mem, mem_map, mem_cons_by}
use Rattle.paper.specs.Search.{Child, long, child, Entry, State, going, ended}
use Rattle.paper.specs.Search.{entered, enter, offer, offer_all, take_next, turns, search, how, entries}
use Rattle.paper.specs.Leads.{situations}
use Rattle.paper_laws.proofs.search.Grown.{first_entry, child_entry, Grown, first, grow, grown_count}
use Rattle.paper_laws.proofs.search.Ended.{Unfinished, Met, Outcome, found_last, all_taken, no_start, full, over}

module _ {S M : Type 0} where
  -- a child that is met is met among more entries
  met_more : (l m : List (Entry S M)) (k : Child S M) → Met l k → Met (l ++ m) k
  met_more l m long d = d
  met_more l m (child a s) d =
      let r = mem_map (λ (e : Entry S M). e.at) l d in
      mathlib.Core.List.Memᴰ.cast r.2 (map_mem (λ (e : Entry S M). e.at) (mathlib.Core.List.Memᴰ.append_left m r.1))

  -- the child k₀ is met now, and what was met still is: one fewer to come
  offered : (l l' : List (Entry S M)) {k₀ : Child S M} {ks : List (Child S M)} → ((k : Child S M) → Met l k → Met l' k)
      → Met l' k₀ → (k : Child S M) → Met l k ⊎ Memᴰ k (k₀ ∷ ks) → Met l' k ⊎ Memᴰ k ks
  offered l l' still now k (inl a) = inl (still k a)
  offered l l' {ks = ks} still now k (inr d) =
      mem_cons_by (λ (x : Child S M). Met l' x ⊎ Memᴰ x ks) (inl now) (λ x i. inr i) k d

  unfinished_snoc : (finished : S → Bool) (l : List (Entry S M)) (e : Entry S M)
      → Unfinished finished l → finished e.at ≡ false → Unfinished finished (l ++ (e ∷ []))
  unfinished_snoc finished l e u f x d =
      ⊎_elim
      (u x)
      (mem_cons_by (λ (y : Entry S M). finished y.at ≡ false) f (λ y i. absurd (mathlib.Core.List.Memᴰ.not-nil i)) x)
      (mathlib.Core.List.Memᴰ.append_cases l d)

module _ {S M : Type 0} (finished : S → Bool) (children : S → List (Child S M)) (room : ℕ) (s₀ : S) where
  -- a search that goes on, with `ks` still to be offered: n are taken, and every child of those taken is met or in `ks`
  record Going (n : ℕ) (ks : List (Child S M)) (t w : List (Entry S M)) : Type 0 where
    grown : Grown children room s₀ (t ++ w)
    unfinished : Unfinished finished (t ++ w)
    met : (p : Entry S M) → Memᴰ p t → (k : Child S M) → Memᴰ k (children p.at) → Met (t ++ w) k ⊎ Memᴰ k ks
    taken : length t ≡ n

  -- between two turns
  abbrev Good : ℕ → State S M → Type 0
  Good n (going t w) = Going n [] t w
  Good n (ended x l) = Outcome finished children room s₀ x l

  -- while the children of p are offered, `ks` of them to come
  abbrev During : ℕ → Entry S M → List (Child S M) → State S M → Type 0
  During n p ks (going t w) = Memᴰ p t × Going n ks t w
  During n p ks (ended x l) = Outcome finished children room s₀ x l

  module _ (same : S → S → Bool) (same_equal : (s t : S) → same s t ≡ true → s ≡ t) (equal_same : (s : S) → same s s ≡ true) where
    -- what the test says
    entered_true : (s : S) (l : List (Entry S M)) → entered same finished children s l ≡ true → Memᴰ s (situations l)
    entered_true s l e =
        let r = any_true (λ (x : Entry S M). same x.at s) l e in
        mathlib.Core.List.Memᴰ.cast (sym (same_equal r.0.at s r.2)) (map_mem (λ (x : Entry S M). x.at) r.1)

    entered_false : (s : S) (l : List (Entry S M)) → entered same finished children s l ≡ false → Memᴰ s (situations l) → ⊥
    entered_false s l e d =
        let r = mem_map (λ (x : Entry S M). x.at) l d in
        let f : same r.0.at s ≡ false = any_false (λ (x : Entry S M). same x.at s) l e r.1 in
        true_false (subst (λ (u : S). same r.0.at u ≡ true) (sym r.2) (equal_same r.0.at)) f

    -- a new child, with room or without
    enter_keeps : (n : ℕ) (p : Entry S M) (ks : List (Child S M)) (t w : List (Entry S M)) (m : M) (s : S)
        → Memᴰ p t → Memᴰ (child m s) (children p.at) → (Memᴰ s (situations (t ++ w)) → ⊥)
        → Going n (child m s ∷ ks) t w
        → During n p ks (enter same finished children room t w (child_entry p m s))
    unfolding enter
    enter_keeps n p ks t w m s d c new g =
        let e : Entry S M = child_entry p m s in
        let order : (t ++ w) ++ (e ∷ []) ≡ t ++ (w ++ (e ∷ [])) = append_assoc t w (e ∷ []) in
        let d' : Memᴰ p (t ++ w) = mathlib.Core.List.Memᴰ.append_left w d in
        cond_by (During n p ks) (leb room (length (t ++ w)))
        (λ h.
        let is_full : length (t ++ w) ≡ room =
        omega (arith, grown_count children room s₀ g.grown, leb_true room (length (t ++ w)) h) in
        full g.grown g.unfinished is_full (p, m, s, d', c, new))
        (λ h.
        let grown : Grown children room s₀ ((t ++ w) ++ (e ∷ [])) =
        grow g.grown d' c new (leb_false room (length (t ++ w)) h) in
        cond_by (During n p ks) (finished s)
        (λ f. rw (← order) (found_last grown g.unfinished f))
        (λ f. (
          d,
          record {
            grown = rw order at grown;
            unfinished = rw order at (unfinished_snoc finished (t ++ w) e g.unfinished f);
            met =
                λ q i k j.
                rw (← order)
                (offered
                _ _
                (met_more (t ++ w) (e ∷ []))
                (map_mem (λ (x : Entry S M). x.at) (mathlib.Core.List.Memᴰ.append_right (t ++ w) (mathlib.Core.List.Memᴰ.head refl)))
                k
                (g.met q i k j));
            taken = g.taken;
          },
        )))

    -- one child of p
    offer_keeps : (n : ℕ) (p : Entry S M) (ks : List (Child S M)) (st : State S M) (k : Child S M)
        → Memᴰ k (children p.at) → During n p (k ∷ ks) st
        → During n p ks (offer same finished children room p.way st k)
    unfolding offer
    offer_keeps n p ks (ended x l) k c o = o
    offer_keeps n p ks (going t w) long c (d, g) = over g.grown g.unfinished (p, mathlib.Core.List.Memᴰ.append_left w d, c)
    offer_keeps n p ks (going t w) (child m s) c (d, g) =
        cond_by (During n p ks) (entered same finished children s (t ++ w))
        (λ h. (
          d,
          record {
            grown = g.grown;
            unfinished = g.unfinished;
            met = λ q i k j. offered _ _ (λ x a. a) (entered_true s (t ++ w) h) k (g.met q i k j);
            taken = g.taken;
          },
        ))
        (λ h. enter_keeps n p ks t w m s d c (entered_false s (t ++ w) h) g)

    -- all of them
    offer_all_keeps : (n : ℕ) (p : Entry S M) (ks : List (Child S M)) (st : State S M)
        → ((k : Child S M) → Memᴰ k ks → Memᴰ k (children p.at)) → During n p ks st
        → Good n (offer_all same finished children room p.way st ks)
    offer_all_keeps n p [] (going t w) c (d, g) = g
    offer_all_keeps n p [] (ended x l) c o = o
    offer_all_keeps n p (k ∷ ks) st c h =
        offer_all_keeps n p ks (offer same finished children room p.way st k)
        (λ x i. c x (mathlib.Core.List.Memᴰ.tail i))
        (offer_keeps n p ks st k (c k (mathlib.Core.List.Memᴰ.head refl)) h)

    -- one turn takes one
    take_next_keeps : (n : ℕ) (st : State S M) → Good n st → Good (suc n) (take_next same finished children room st)
    unfolding take_next
    take_next_keeps n (ended x l) o = o
    take_next_keeps n (going t []) g =
        all_taken (rw (append-nil t) at g.grown) (rw (append-nil t) at g.unfinished)
        (λ e d k c.
        ⊎_elim (λ (i : Met (t ++ []) k). rw (append-nil t) at i) (λ i. absurd (mathlib.Core.List.Memᴰ.not-nil i)) (g.met e d k c))
    take_next_keeps n (going t (e ∷ w)) g =
        let order : (t ++ (e ∷ [])) ++ w ≡ t ++ (e ∷ w) = append_assoc t (e ∷ []) w in
        offer_all_keeps (suc n) e (children e.at) (going (t ++ (e ∷ [])) w) (λ k d. d) (
          mathlib.Core.List.Memᴰ.append_right t (mathlib.Core.List.Memᴰ.head refl),
          record {
            grown = rw order g.grown;
            unfinished = rw order g.unfinished;
            met =
                λ q i k j.
                rw order
                (⊎_elim
                (λ (x : Memᴰ q t). ⊎_elim inl (λ y. absurd (mathlib.Core.List.Memᴰ.not-nil y)) (g.met q x k j))
                (λ (x : Memᴰ q (e ∷ [])).
                inr (subst (λ (z : Entry S M). Memᴰ k (children z.at)) (mathlib.Core.List.Memᴰ.eq_of_singleton x) j))
                (mathlib.Core.List.Memᴰ.append_cases t i));
            taken = omega (arith, length-append t (e ∷ []), g.taken);
          },
        )

    turns_keep : (n k : ℕ) (st : State S M) → Good n st → Good (k + n) (turns same finished children room k st)
    turns_keep n zero st g = rw (zero-add n) g
    turns_keep n (suc k) st g =
        rw (suc-add k n, ← add-suc k n)
        (turns_keep (suc n) k (take_next same finished children room st) (take_next_keeps n st g))

    enter_first : Good 0 (enter same finished children room [] [] (first_entry s₀))
    unfolding enter
    enter_first =
        cond_by (Good 0) (leb room 0)
        (λ h. no_start (omega (arith, leb_true room 0 h)))
        (λ h.
        let grown : Grown children room s₀ (first_entry s₀ ∷ []) = first (leb_false room 0 h) in
        let none : Unfinished {M = M} finished [] = λ e d. absurd (mathlib.Core.List.Memᴰ.not-nil d) in
        cond_by (Good 0) (finished s₀)
        (λ f. found_last {l = []} grown none f)
        (λ f.
        record {
          grown = grown;
          unfinished = unfinished_snoc finished [] (first_entry s₀) none f;
          met = λ q i k j. absurd (mathlib.Core.List.Memᴰ.not-nil i);
          taken = refl;
        }))

    -- the state is an end, of which `Ended` says what it does
    abbrev pub Ends : State S M → Type 0
    Ends st =
        (st ≡ ended (how st) (entries st))
        × Outcome finished children room s₀ (how st) (entries st)

    -- whoever has taken more than the room has ended: an entry taken is an entry
    good_ends : (n : ℕ) (st : State S M) → room < n → Good n st → Ends st
    good_ends n (going t w) h g =
        absurd (omega (arith, h, grown_count children room s₀ g.grown, length-append t w, g.taken))
    good_ends n (ended x l) h o = (refl, o)

    pub search_ends : Ends (search same finished children room s₀)
    unfolding search
    search_ends =
        good_ends (suc room + 0) (search same finished children room s₀) (omega arith)
        (turns_keep 0 (suc room) (enter same finished children room [] [] (first_entry s₀)) enter_first)
