-- The laws of the search over any situations (document 01, "The search"), from the first situation s₀, in a room of any size.
-- The test `same` is asked to be equality; of `finished` and `children` nothing is asked.
-- First the laws of every search, then what each end says, then a larger room (`larger_room`, which waits for request K11 and is used
-- nowhere before), then what bounds a search. Follows from how the entries grow (`Grown`), from what each end says of them (`Ended`,
-- `Ends`), and from how two rooms compare (`Room`).
use Prim.Native.Nat.{ℕ, ◌≤◌, ◌<◌}
use native.Mathlib.Omega.{arith}
use mathlib.Core.Path.{◌≡◌, refl, sym, ap, ◌∙◌, subst}
use mathlib.Core.Logic.{◌⊎◌, ⊎_elim}
use mathlib.Core.Bool.{Bool, true, false}
use mathlib.Core.List.{List, [], ◌∷◌, ◌++◌}
use mathlib.Core.List.Memᴰ
use mathlib.Core.List.{Memᴰ}
use lib.ListN.{length, length-map}
use Rattle.paper.proofs.base.Tests.{true_false}
use Rattle.paper.proofs.base.Lists.{NoDup, none, mem_map, mem_length, pigeonhole, pigeonhole_lt}
use Rattle.paper.specs.Search.{Child, long, child, Entry, End, found, used_up, no_room, too_long, State, ended}
use Rattle.paper.specs.Search.{search, how, entries, count}
use Rattle.paper.specs.Leads.{Leads, start, step, situations}
use Rattle.paper_laws.proofs.search.Grown.{first_entry, Grown, grown_count, grown_first, grown_different}
use Rattle.paper_laws.proofs.search.Grown.{grown_by, grown_leads, grown_way}
use Rattle.paper_laws.proofs.search.Ended.{ChildLeftOut, HasLong, Outcome, outcome_grown}
use Rattle.paper_laws.proofs.search.Ended.{outcome_found, outcome_used_up, outcome_no_room, outcome_too_long}
use Rattle.paper_laws.proofs.search.Ends.{search_ends}
use Rattle.paper_laws.proofs.search.Room.{search_alike}

module _
    {S M : Type 0}
    (same : S → S → Bool)
    (finished : S → Bool)
    (children : S → List (Child S M))
    (same_equal : (s t : S) → same s t ≡ true → s ≡ t)
    (equal_same : (s : S) → same s s ≡ true)
    (room : ℕ)
    (s₀ : S)
  where
    abbrev the_search : State S M
    the_search = search same finished children room s₀

    abbrev the_end : End S M
    the_end = how the_search

    abbrev the_entries : List (Entry S M)
    the_entries = entries the_search

    abbrev the_count : ℕ
    the_count = count the_search

    -- The search always ends: room + 1 turns are enough.
    pub settled : the_search ≡ ended the_end the_entries
    settled = (search_ends finished children room s₀ same same_equal equal_same).0

    outcome : Outcome finished children room s₀ the_end the_entries
    outcome = (search_ends finished children room s₀ same same_equal equal_same).1

    outcome_as : (x : End S M) → the_end ≡ x → Outcome finished children room s₀ x the_entries
    outcome_as x h = rw h at outcome

    abbrev None : Type 0
    None = (room ≡ 0) × (the_entries ≡ [])

    grown_or_none : Grown children room s₀ the_entries ⊎ None
    grown_or_none = outcome_grown finished children room s₀ outcome

    grown_with : {e : Entry S M} → Memᴰ e the_entries → Grown children room s₀ the_entries
    grown_with {e} d =
        ⊎_elim (λ g. g) (λ (z : None). absurd (Memᴰ.not-nil (subst (Memᴰ e) z.1 d))) grown_or_none

    -- "The count equals the number of situations entered": it is never above the room.
    pub count_at_most_room : the_count ≤ room
    count_at_most_room = ⊎_elim (grown_count children room s₀) (λ (z : None). omega (arith, ap length z.1)) grown_or_none

    -- No situation is entered twice.
    pub entries_different : NoDup (situations the_entries)
    entries_different = ⊎_elim (grown_different children room s₀) (λ (z : None). rw z.1 none) grown_or_none

    -- With room for one, the first situation is entered first, with no moves.
    pub first_entered : 0 < room → (l : List (Entry S M)) × (the_entries ≡ first_entry s₀ ∷ l)
    first_entered h = ⊎_elim (grown_first children room s₀) (λ (z : None). absurd (omega (arith, z.0))) grown_or_none

    -- The way of every entry leads from the first situation to it.
    pub way_leads : (e : Entry S M) → Memᴰ e the_entries → Leads children s₀ e.way e.at
    way_leads e d = grown_leads children room s₀ (grown_with d) e d

    -- A way has fewer moves than there are entries.
    pub way_below_count : (e : Entry S M) → Memᴰ e the_entries → length e.way < the_count
    way_below_count e d = grown_way children room s₀ (grown_with d) e d

    -- What holds of the first situation, and of every child of one of which it holds, holds of every entry's situation.
    pub every_entry {κ} : (P : S → Type κ) → P s₀
        → ((s : S) (m : M) (t : S) → P s → Memᴰ (child m t) (children s) → P t)
        → (e : Entry S M) → Memᴰ e the_entries → P e.at
    every_entry P h on e d = grown_by children room s₀ P h on (grown_with d) e d

    -- "a finished one ends the search": the entry found is the last one, it is finished, and none before it is.
    pub found_is_last : (e : Entry S M) → the_end ≡ found e
        → (l : List (Entry S M)) × (the_entries ≡ l ++ (e ∷ [])) × (finished e.at ≡ true)
        × ((f : Entry S M) → Memᴰ f l → finished f.at ≡ false)
    found_is_last e h = outcome_found finished children room s₀ (outcome_as (found e) h)

    pub found_entered : (e : Entry S M) → the_end ≡ found e → Memᴰ e the_entries
    found_entered e h = let r = found_is_last e h in rw r.1 (Memᴰ.append_right r.0 (Memᴰ.head refl))

    pub found_finished : (e : Entry S M) → the_end ≡ found e → finished e.at ≡ true
    found_finished e h = (found_is_last e h).2

    -- "When all are used up the answer is 1": then no entry is finished,
    pub used_up_unfinished : the_end ≡ used_up → (e : Entry S M) → Memᴰ e the_entries → finished e.at ≡ false
    used_up_unfinished h = (outcome_used_up finished children room s₀ (outcome_as used_up h)).1

    -- no child of an entry is too long,
    pub used_up_not_long : the_end ≡ used_up → (e : Entry S M) → Memᴰ e the_entries → Memᴰ long (children e.at) → ⊥
    used_up_not_long h e d k = (outcome_used_up finished children room s₀ (outcome_as used_up h)).2 e d long k

    -- every other child of an entry is entered,
    pub used_up_closed : the_end ≡ used_up → (e : Entry S M) → Memᴰ e the_entries
        → (m : M) (t : S) → Memᴰ (child m t) (children e.at) → Memᴰ t (situations the_entries)
    used_up_closed h e d m t k = (outcome_used_up finished children room s₀ (outcome_as used_up h)).2 e d (child m t) k

    -- and so is every situation that some way leads to.
    pub used_up_reaches : the_end ≡ used_up → {way : List M} {t : S} → Leads children s₀ way t
        → Memᴰ t (situations the_entries)
    used_up_reaches h start =
        rw (grown_first children room s₀ (outcome_used_up finished children room s₀ (outcome_as used_up h)).0).1
        (Memᴰ.head refl)
    used_up_reaches h (step {u = u} {m = m} w k) =
        let r = mem_map (λ (e : Entry S M). e.at) the_entries (used_up_reaches h w) in
        used_up_closed h r.0 r.1 m u (subst (λ (t : S). Memᴰ (child m u) (children t)) r.2 k)

    -- "no room gives 18": the room is full, and there is none at all, or some entry has a child that is not entered.
    pub no_room_full : the_end ≡ no_room → (the_count ≡ room) × ((room ≡ 0) ⊎ ChildLeftOut children the_entries)
    no_room_full h = outcome_no_room finished children room s₀ (outcome_as no_room h)

    -- "a side above 48 tokens gives 19": some entry has a child that is too long.
    pub too_long_child : the_end ≡ too_long → HasLong children the_entries
    too_long_child h = outcome_too_long finished children room s₀ (outcome_as too_long h)

    -- In a larger room a search that did not find no room ends the same way, with the same entries.
    pub larger_room : (room' : ℕ) → room ≤ room' → (the_end ≡ no_room → ⊥) → search same finished children room' s₀ ≡ the_search
    larger_room room' h n = search_alike same finished children room room' h s₀ the_end the_entries n settled ∙ sym settled

    -- A property that the first situation has and that goes over to children bounds the search, with a list of all that have it.
    module _ (Within : S → Type 0) (first_within : Within s₀) (child-within : (s : S) → Within s → (m : M) (t : S) → Memᴰ (child m t) (children s) → Within t) where
      entry_within : (e : Entry S M) → Memᴰ e the_entries → Within e.at
      entry_within = every_entry Within first_within (λ s m t i k. child-within s i m t k)

      -- Where none of them has a child that is too long, the search finds none.
      pub within_not_long : ((s : S) → Within s → Memᴰ long (children s) → ⊥) → the_end ≡ too_long → ⊥
      within_not_long h k = let r = too_long_child k in h r.0.at (entry_within r.0 r.1) r.2

      module _ (bound : List S) (listed : (s : S) → Within s → Memᴰ s bound) where
        entered_listed : (s : S) → Memᴰ s (situations the_entries) → Memᴰ s bound
        entered_listed s d =
            let r = mem_map (λ (e : Entry S M). e.at) the_entries d in Memᴰ.cast r.2 (listed r.0.at (entry_within r.0 r.1))

        -- The count is at most the list's length.
        pub within_count : the_count ≤ length bound
        within_count = rw (length-map the_entries (λ (e : Entry S M). e.at)) at (pigeonhole bound entries_different entered_listed)

        -- With that much room the search never finds no room.
        pub within_has_room : length bound ≤ room → the_end ≡ no_room → ⊥
        within_has_room h k =
            let r = no_room_full k in
            ⊎_elim
            (λ z. omega (arith, z, h, mem_length (listed s₀ first_within)))
            (λ (c : ChildLeftOut children the_entries).
            let fewer : length (situations the_entries) < length bound =
            pigeonhole_lt bound entries_different entered_listed
            (listed c.2 (child-within c.0.at (entry_within c.0 c.3) c.1 c.2 c.4)) c.5 in
            omega (arith, r.0, h, fewer, length-map the_entries (λ (e : Entry S M). e.at)))
            r.1

    -- So does a list of situations that has the first one and every child of each of its own.
    module _ (bound : List S) (first_in : Memᴰ s₀ bound) (child_in : (s : S) → Memᴰ s bound → (m : M) (t : S) → Memᴰ (child m t) (children s) → Memᴰ t bound) where
      abbrev Listed : S → Type 0
      Listed s = Memᴰ s bound

      pub bound_no_room : length bound ≤ room → the_end ≡ no_room → ⊥
      bound_no_room = within_has_room Listed first_in child_in bound (λ s d. d)

      pub bound_not_long : ((s : S) → Memᴰ s bound → Memᴰ long (children s) → ⊥) → the_end ≡ too_long → ⊥
      bound_not_long = within_not_long Listed first_in child_in

      -- And where moreover none of them is finished, the search uses all up.
      pub bound_used_up : length bound ≤ room → ((s : S) → Memᴰ s bound → Memᴰ long (children s) → ⊥) → ((s : S) → Memᴰ s bound → finished s ≡ false) → the_end ≡ used_up
      bound_used_up h n u = of the_end refl
        where
          of : (x : End S M) → the_end ≡ x → x ≡ used_up
          of (found e) k = absurd (true_false (found_finished e k) (u e.at (entry_within Listed first_in child_in e (found_entered e k))))
          of used_up k = refl
          of no_room k = absurd (bound_no_room h k)
          of too_long k = absurd (bound_not_long n k)
