-- Two searches side by side: where the situations of one stand for those of another, its whole search does.
--   search_mapped : search same' finished' children' room (code s₀) ≡ code_state (search same finished children room s₀)
-- `code` takes situations over and `step` moves. The three tests and children are asked to agree on good situations only: the first
-- one is good, and every child of a good one. Follows from the definition of the search, one step after the other.
use Prim.Native.Nat.{ℕ, zero, suc}
use mathlib.Core.Path.{◌≡◌, refl, sym, ap, ◌∙◌}
use mathlib.Core.Logic.{⊎_elim}
use mathlib.Core.Bool.{Bool, ◌||◌}
use mathlib.Core.List.Memᴰ
use mathlib.Core.List.{List, [], ◌∷◌, ◌++◌, map, Memᴰ, append_assoc}
use lib.Dec.{leb}
use lib.ListN.{length, length-map}
use Rattle.paper.proofs.base.Tests.{by_bool}
use Rattle.paper.proofs.base.Lists.{map_append, mem_cons_by}
use Rattle.paper.specs.Search.{Child, long, child, Entry, End, found, used_up, no_room, too_long, State, going, ended, entered, enter, offer, offer_all, take_next, turns, search, how, entries, count}

module _ {S M S' M' : Type 0} (code : S → S') (step : M → M') where
  abbrev pub code_child : Child S M → Child S' M'
  code_child long = long
  code_child (child m s) = child (step m) (code s)

  abbrev pub code_entry : Entry S M → Entry S' M'
  code_entry e = record { at = code e.at; way = map step e.way }

  abbrev pub code_entries : List (Entry S M) → List (Entry S' M')
  code_entries l = map code_entry l

  abbrev pub code_end : End S M → End S' M'
  code_end (found e) = found (code_entry e)
  code_end used_up = used_up
  code_end no_room = no_room
  code_end too_long = too_long

  abbrev pub code_state : State S M → State S' M'
  code_state (going t w) = going (code_entries t) (code_entries w)
  code_state (ended x l) = ended (code_end x) (code_entries l)

  -- The tests and the children agree, on good situations.
  pub record Simulates
      (same : S → S → Bool) (finished : S → Bool) (children : S → List (Child S M))
      (same' : S' → S' → Bool) (finished' : S' → Bool) (children' : S' → List (Child S' M'))
      (Good : S → Type 0) : Type 0 where
    pub same_alike : (s t : S) → Good s → Good t → same' (code s) (code t) ≡ same s t
    pub finished_alike : (s : S) → Good s → finished' (code s) ≡ finished s
    pub children_alike : (s : S) → Good s → children' (code s) ≡ map code_child (children s)
    pub child_good : (s : S) (m : M) (t : S) → Good s → Memᴰ (child m t) (children s) → Good t

module _
    {S M S' M' : Type 0} {code : S → S'} {step : M → M'}
    {same : S → S → Bool} {finished : S → Bool} {children : S → List (Child S M)}
    {same' : S' → S' → Bool} {finished' : S' → Bool} {children' : S' → List (Child S' M')}
    {Good : S → Type 0} (like : Simulates code step same finished children same' finished' children' Good) (room : ℕ)
  where
    abbrev coded : List (Entry S M) → List (Entry S' M')
    coded = code_entries code step

    abbrev AllGood : List (Entry S M) → Type 0
    AllGood l = (e : Entry S M) → Memᴰ e l → Good e.at

    -- the state of the second search is that of the first, and what may still be looked at is good
    abbrev Alike : State S M → State S' M' → Type 0
    Alike (going t w) st' = AllGood (t ++ w) × (st' ≡ going (coded t) (coded w))
    Alike (ended x l) st' = st' ≡ ended (code_end code step x) (coded l)

    coded_append : (t w : List (Entry S M)) → coded (t ++ w) ≡ coded t ++ coded w
    coded_append t w = map_append (code_entry code step) t w

    entered_alike : (s : S) (l : List (Entry S M)) → Good s → AllGood l
        → entered same' finished' children' (code s) (coded l) ≡ entered same finished children s l
    entered_alike s [] g a = refl
    entered_alike s (e ∷ l) g a =
        rw (like.same_alike e.at s (a e (Memᴰ.head refl)) g)
        (ap (λ (b : Bool). same e.at s || b) (entered_alike s l g (λ x d. a x (Memᴰ.tail d))))

    good_snoc : (l : List (Entry S M)) (e : Entry S M) → AllGood l → Good e.at → AllGood (l ++ (e ∷ []))
    good_snoc l e a g x d =
        ⊎_elim (a x)
        (mem_cons_by (λ (y : Entry S M). Good y.at) g (λ y i. absurd (Memᴰ.not-nil i)) x)
        (Memᴰ.append_cases l d)

    enter_alike : (t w : List (Entry S M)) (e : Entry S M) → AllGood (t ++ w) → Good e.at
        → Alike (enter same finished children room t w e)
        (enter same' finished' children' room (coded t) (coded w) (code_entry code step e))
    unfolding enter
    enter_alike t w e a g =
        rw (← coded_append t w, length-map (t ++ w) (code_entry code step), like.finished_alike e.at g)
        (by_bool (leb room (length (t ++ w)))
        (λ h. rw h refl)
        (λ h. by_bool (finished e.at)
        (λ f. rw (h, f, coded_append t (w ++ (e ∷ [])), coded_append w (e ∷ [])))
        (λ f. rw (h, f, coded_append w (e ∷ [])) (rw append_assoc at (good_snoc (t ++ w) e a g), refl))))

    offer_alike : (way : List M) (st : State S M) (st' : State S' M') (k : Child S M) → ((m : M) (s : S) → k ≡ child m s → Good s)
        → Alike st st'
        → Alike (offer same finished children room way st k)
        (offer same' finished' children' room (map step way) st' (code_child code step k))
    unfolding offer
    offer_alike way (ended x l) st' k g a = rw a
    offer_alike way (going t w) st' long g a = rw (a.1, coded_append t w)
    offer_alike way (going t w) st' (child m s) g a =
        rw (a.1, ← coded_append t w, entered_alike s (t ++ w) (g m s refl) a.0)
        (by_bool (entered same finished children s (t ++ w))
        (λ h. rw h (a.0, refl))
        (λ h. rw h (enter_alike t w (record { at = s; way = m ∷ way }) a.0 (g m s refl))))

    offer_all_alike : (way : List M) (ks : List (Child S M)) (st : State S M) (st' : State S' M')
        → ((m : M) (s : S) → Memᴰ (child m s) ks → Good s)
        → Alike st st'
        → Alike (offer_all same finished children room way st ks)
        (offer_all same' finished' children' room (map step way) st' (map (code_child code step) ks))
    offer_all_alike way [] st st' g a = a
    offer_all_alike way (k ∷ ks) st st' g a =
        offer_all_alike way ks (offer same finished children room way st k)
        (offer same' finished' children' room (map step way) st' (code_child code step k))
        (λ m s d. g m s (Memᴰ.tail d))
        (offer_alike way st st' k (λ m s e. g m s (Memᴰ.head (sym e))) a)

    take_next_alike : (st : State S M) (st' : State S' M')
        → Alike st st' → Alike (take_next same finished children room st) (take_next same' finished' children' room st')
    unfolding take_next
    take_next_alike (ended x l) st' a = rw a
    take_next_alike (going t []) st' a = rw a.1
    take_next_alike (going t (e ∷ w)) st' a =
        let good : Good e.at = a.0 e (Memᴰ.append_right t (Memᴰ.head refl)) in
        rw (a.1, like.children_alike e.at good)
        (offer_all_alike e.way (children e.at) (going (t ++ (e ∷ [])) w) (going (coded t ++ (code_entry code step e ∷ [])) (coded w))
        (λ m s d. like.child_good e.at m s good d)
        (rw append_assoc a.0, rw (coded_append t (e ∷ []))))

    turns_alike : (n : ℕ) (st : State S M) (st' : State S' M')
        → Alike st st' → Alike (turns same finished children room n st) (turns same' finished' children' room n st')
    turns_alike zero st st' a = a
    turns_alike (suc n) st st' a =
        turns_alike n (take_next same finished children room st) (take_next same' finished' children' room st') (take_next_alike st st' a)

    alike_coded : (st : State S M) (st' : State S' M') → Alike st st' → st' ≡ code_state code step st
    alike_coded (going t w) st' a = a.1
    alike_coded (ended x l) st' a = a

    how_coded : (st : State S M)
        → how (code_state code step st) ≡ code_end code step (how st)
    how_coded (going t w) = refl
    how_coded (ended x l) = refl

    entries_coded : (st : State S M)
        → entries (code_state code step st) ≡ coded (entries st)
    entries_coded (going t w) = sym (coded_append t w)
    entries_coded (ended x l) = refl

    module _ (s₀ : S) (g : Good s₀) where
      abbrev first_search : State S M
      first_search = search same finished children room s₀

      abbrev second_search : State S' M'
      second_search = search same' finished' children' room (code s₀)

      -- The second search is the first one, taken over.
      pub search_mapped : second_search ≡ code_state code step first_search
      unfolding search
      search_mapped =
          let e : Entry S M = record { at = s₀; way = [] } in
          let e' : Entry S' M' = record { at = code s₀; way = [] } in
          alike_coded first_search second_search
          (turns_alike (suc room) (enter same finished children room [] [] e) (enter same' finished' children' room [] [] e')
          (enter_alike [] [] e (λ x d. absurd (Memᴰ.not-nil d)) g))

      -- So it ends alike, with the same entries taken over, as many of them.
      pub search_how : how second_search ≡ code_end code step (how first_search)
      search_how = rw search_mapped (how_coded first_search)

      pub search_entries : entries second_search ≡ coded (entries first_search)
      search_entries = rw search_mapped (entries_coded first_search)

      pub search_count : count second_search ≡ count first_search
      search_count = ap length search_entries ∙ length-map (entries first_search) (code_entry code step)
