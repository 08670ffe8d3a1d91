-- The search over slots is the paper's search at coded situations: it ends the same way, the slots hold the entries' situations in their
-- order, every slot but the first has its parent before it, and walking from parent to parent gives the entry's way.
-- Follows by a relation of the two states that every step keeps: those taken are the first k slots.
use Prim.Native.Nat.{ℕ, zero, suc, ◌+◌, ◌<◌}
use native.Mathlib.Nat.{zero-add, suc-add, add-suc}
use native.Mathlib.Omega.{arith}
use mathlib.Core.Path.{◌≡◌, refl, sym, ap, ◌∙◌, subst}
use mathlib.Core.Bool.{Bool, true, false, ◌||◌}
use mathlib.Core.List.{List, [], ◌∷◌, ◌++◌, map, append-nil, append_assoc}
use lib.Dec.{leb, ltb}
use lib.ListN.{length, get_or, length-append, length-map, get_or-append, get_or-map}
use lib.Seq.{get_or_at}
use Rattle.paper.specs.Lists.{any}
use Rattle.paper.specs.Search.{Child, long, child, Entry, End, found, used_up, no_room, too_long, State, going, ended, entered, enter, offer, offer_all, take_next, turns, search, how, entries}
use Rattle.paper.specs.Leads.{situations}
use Rattle.paper.proofs.base.Tests.{by_bool, ltb_true, ltb_false, lt_ltb, le_ltb}
use Rattle.paper.proofs.base.Lists.{map_append}
use Rattle.paper_laws.proofs.search.Room.{ended_turns}
use Rattle.paper_laws.proofs.search.Searched.{settled, found_is_last}
use Rattle.base_codes.specs.Coded.{Coded, finished_coded, same_coded}
use Rattle.search_children.specs.Children.{Tables, children_coded}
use Rattle.search_slots.specs.Slots.{Slot, no_slot, slot_at}
use Rattle.search_run.specs.Run.{Running, is_going, status_of, enter_slot, offer_slot, offer_slots, take_slot, slot_turns, slot_search}
use Rattle.search_run.specs.declared.search.Status.TheVariants.{Going, Found}
use Rattle.search_slots.proofs.Situations.{same_coded_equal, equal_same_coded}

abbrev Entries : Type 0
Entries = List (Entry Coded ℕ)

abbrev pub no_entry : Entry Coded ℕ
no_entry = record { at = no_slot.at; way = [] }

-- the entry with the number i
abbrev pub entry_at : Entries → ℕ → Entry Coded ℕ
entry_at l i = get_or l i no_entry

-- the situations in slots, in their order
abbrev pub situations_in : List Slot → List Coded
situations_in ss = map (λ (x : Slot). x.at) ss

-- The slots hold the entries: the same situations, the first with no moves, each other one with the way of an earlier one and its own
-- step.
pub record Numbered (ss : List Slot) (l : Entries) : Type 0 where
  pub alike : situations_in ss ≡ situations l
  pub first_way : (entry_at l 0).way ≡ []
  pub earlier : (i : ℕ) → suc i < length ss → (slot_at ss (suc i)).parent < suc i
  pub its_way : (i : ℕ) → suc i < length ss
      → (entry_at l (suc i)).way ≡ (slot_at ss (suc i)).step ∷ (entry_at l (slot_at ss (suc i)).parent).way

module _ {ss : List Slot} {l : Entries} (k : Numbered ss l) where
  -- as many
  pub numbered_length : length ss ≡ length l
  numbered_length =
      sym (length-map ss (λ (x : Slot). x.at)) ∙ ap length k.alike ∙ length-map l (λ (e : Entry Coded ℕ). e.at)

  -- the same situation at each number
  pub numbered_at : (i : ℕ) → (slot_at ss i).at ≡ (entry_at l i).at
  numbered_at i =
      sym (get_or-map (λ (x : Slot). x.at) ss i no_slot)
      ∙ ap (λ (c : List Coded). get_or c i no_slot.at) k.alike
      ∙ get_or-map (λ (e : Entry Coded ℕ). e.at) l i no_entry

any_map {ℓ κ} : {A : Type ℓ} {B : Type κ} (p : B → Bool) (f : A → B) (l : List A) → any p (map f l) ≡ any (λ (x : A). p (f x)) l
any_map p f [] = refl
any_map p f (x ∷ l) = ap (λ (b : Bool). p (f x) || b) (any_map p f l)

numbered_none : Numbered [] []
numbered_none = record { alike = refl; first_way = refl; earlier = λ i h. absurd (omega arith); its_way = λ i h. absurd (omega arith) }

numbered_first : (s : Coded) → Numbered (record { at = s; parent = 0; step = 0 } ∷ []) (record { at = s; way = [] } ∷ [])
numbered_first s = record { alike = refl; first_way = refl; earlier = λ i h. absurd (omega arith); its_way = λ i h. absurd (omega arith) }

not_going : (x : End Coded ℕ) → is_going (status_of x) ≡ false
not_going (found e) = refl
not_going used_up = refl
not_going no_room = refl
not_going too_long = refl

stopped : (x : End Coded ℕ) (run : Running) → run.status ≡ status_of x → is_going run.status ≡ false
stopped x run e = ap is_going e ∙ not_going x

-- a new slot, with an earlier one as its parent
module _ (ss : List Slot) (l : Entries) (k : Numbered ss l) (n : ℕ) (h : n < length ss) (m : ℕ) (s : Coded) where
  abbrev new_slot : Slot
  new_slot = record { at = s; parent = n; step = m }

  abbrev new_entry : Entry Coded ℕ
  new_entry = record { at = s; way = m ∷ (entry_at l n).way }

  abbrev more_slots : List Slot
  more_slots = ss ++ (new_slot ∷ [])

  abbrev more_entries : Entries
  more_entries = l ++ (new_entry ∷ [])

  slot_before : (i : ℕ) → i < length ss → slot_at more_slots i ≡ slot_at ss i
  slot_before i b = get_or-append ss (new_slot ∷ []) no_slot i b

  entry_before : (i : ℕ) → i < length ss → entry_at more_entries i ≡ entry_at l i
  entry_before i b = get_or-append l (new_entry ∷ []) no_entry i (omega (arith, numbered_length k))

  -- a number below the new length is an old one or the last
  number_by {κ} : (P : ℕ → Type κ) → ((i : ℕ) → i < length ss → P i) → P (length ss) → (i : ℕ) → i < length more_slots → P i
  number_by P old last i b =
      by_bool (ltb i (length ss))
      (λ e. old i (ltb_true i (length ss) e))
      (λ e. subst P (omega (arith, length-append ss (new_slot ∷ []), ltb_false i (length ss) e)) last)

  abbrev ParentBefore : ℕ → Type 0
  ParentBefore zero = Unit {0}
  ParentBefore (suc i) = (slot_at more_slots (suc i)).parent < suc i

  abbrev WayFollows : ℕ → Type 0
  WayFollows zero = Unit {0}
  WayFollows (suc i) =
      (entry_at more_entries (suc i)).way
      ≡ (slot_at more_slots (suc i)).step ∷ (entry_at more_entries (slot_at more_slots (suc i)).parent).way

  old_before : (i : ℕ) → i < length ss → ParentBefore i
  old_before zero b = tt
  old_before (suc i) b = rw (slot_before (suc i) b) (k.earlier i b)

  old_follows : (i : ℕ) → i < length ss → WayFollows i
  old_follows zero b = tt
  old_follows (suc i) b =
      let parent = (slot_at ss (suc i)).parent in
      rw (slot_before (suc i) b, entry_before (suc i) b, entry_before parent (omega (arith, k.earlier i b))) (k.its_way i b)

  last_before : (i : ℕ) → length ss ≡ i → ParentBefore i
  last_before zero e = tt
  last_before (suc i) e = rw (get_or_at ss new_slot [] no_slot (suc i) e) (omega arith)

  last_follows : (i : ℕ) → length ss ≡ i → WayFollows i
  last_follows zero e = tt
  last_follows (suc i) e =
      rw (get_or_at ss new_slot [] no_slot (suc i) e, get_or_at l new_entry [] no_entry (suc i) (sym (numbered_length k) ∙ e), entry_before n h)

  numbered_snoc : Numbered more_slots more_entries
  numbered_snoc =
      record {
        alike =
            rw (map_append (λ (x : Slot). x.at) ss (new_slot ∷ []), map_append (λ (e : Entry Coded ℕ). e.at) l (new_entry ∷ []), k.alike);
        first_way = rw (entry_before 0 (omega arith)) k.first_way;
        earlier = λ i b. number_by ParentBefore old_before (last_before (length ss) refl) (suc i) b;
        its_way = λ i b. number_by WayFollows old_follows (last_follows (length ss) refl) (suc i) b;
      }

module _ (T : Tables) (room : ℕ) where
  -- the paper's search at coded situations, and its steps
  abbrev entering : Entries → Entries → Entry Coded ℕ → State Coded ℕ
  entering = enter same_coded finished_coded (children_coded T) room

  abbrev offering : List ℕ → State Coded ℕ → Child Coded ℕ → State Coded ℕ
  offering = offer same_coded finished_coded (children_coded T) room

  abbrev offering_all : List ℕ → State Coded ℕ → List (Child Coded ℕ) → State Coded ℕ
  offering_all = offer_all same_coded finished_coded (children_coded T) room

  abbrev taking : State Coded ℕ → State Coded ℕ
  taking = take_next same_coded finished_coded (children_coded T) room

  abbrev turning : ℕ → State Coded ℕ → State Coded ℕ
  turning = turns same_coded finished_coded (children_coded T) room

  abbrev entered_coded : Coded → Entries → Bool
  entered_coded s l = entered same_coded finished_coded (children_coded T) s l

  entered_numbered : (s : Coded) {ss : List Slot} {l : Entries} → Numbered ss l
      → any (λ (x : Slot). same_coded x.at s) ss ≡ entered_coded s l
  entered_numbered s {ss} {l} k =
      sym (any_map (λ (c : Coded). same_coded c s) (λ (x : Slot). x.at) ss)
      ∙ ap (any (λ (c : Coded). same_coded c s)) k.alike
      ∙ any_map (λ (c : Coded). same_coded c s) (λ (e : Entry Coded ℕ). e.at) l

  -- between two entries taken: k are taken
  abbrev Between : ℕ → State Coded ℕ → Running → Type 0
  Between k (going t w) run = (run.status ≡ Going) × (length t ≡ k) × Numbered run.slots (t ++ w)
  Between k (ended x l) run = (run.status ≡ status_of x) × Numbered run.slots l

  -- while the children of the entry e are offered: its number is k, and those taken end with it
  module _ (k : ℕ) (t : Entries) (e : Entry Coded ℕ) (n : length t ≡ k) where
    abbrev taken : Entries
    taken = t ++ (e ∷ [])

    abbrev During : State Coded ℕ → Running → Type 0
    During (going t' w) run = (run.status ≡ Going) × (t' ≡ taken) × Numbered run.slots (taken ++ w)
    During (ended x l) run = (run.status ≡ status_of x) × Numbered run.slots l

    numbered_child : (w : Entries) (ss : List Slot) (m : ℕ) (s : Coded) → Numbered ss (taken ++ w)
        → Numbered (ss ++ (record { at = s; parent = k; step = m } ∷ [])) (taken ++ (w ++ (record { at = s; way = m ∷ e.way } ∷ [])))
    numbered_child w ss m s held =
        let at-k : entry_at (taken ++ w) k ≡ e = rw (append_assoc t (e ∷ []) w) (get_or_at t e w no_entry k n) in
        let below : k < length ss = omega (arith, numbered_length held, length-append taken w, length-append t (e ∷ [])) in
        rw (← append_assoc taken w (record { at = s; way = m ∷ e.way } ∷ []))
        (rw at-k at (numbered_snoc ss (taken ++ w) held k below m s))

    enter_during : (w : Entries) (ss : List Slot) (m : ℕ) (s : Coded) → Numbered ss (taken ++ w)
        → During (entering taken w (record { at = s; way = m ∷ e.way })) (enter_slot room ss (record { at = s; parent = k; step = m }))
    unfolding enter enter_slot
    enter_during w ss m s held =
        rw (numbered_length held)
        (by_bool (leb room (length (taken ++ w)))
        (λ h. rw h (refl, held))
        (λ h. by_bool (finished_coded s)
        (λ f. rw (h, f) (refl, numbered_child w ss m s held))
        (λ f. rw (h, f) (refl, refl, numbered_child w ss m s held))))

    offer_during : (st : State Coded ℕ) (run : Running) (c : Child Coded ℕ)
        → During st run → During (offering e.way st c) (offer_slot room k run c)
    unfolding offer offer_slot
    offer_during (ended x l) run c d = rw (stopped x run d.0) d
    offer_during (going t' w) run long d = rw (d.0, d.1) (refl, d.2)
    offer_during (going t' w) run (child m s) d =
        rw (d.0, d.1, entered_numbered s d.2)
        (by_bool (entered_coded s (taken ++ w))
        (λ h. rw h (refl, refl, d.2))
        (λ h. rw h (enter_during w run.slots m s d.2)))

    offers_during : (cs : List (Child Coded ℕ)) (st : State Coded ℕ) (run : Running)
        → During st run → During (offering_all e.way st cs) (offer_slots room k run cs)
    offers_during [] st run d = d
    offers_during (c ∷ cs) st run d =
        offers_during cs (offering e.way st c) (offer_slot room k run c) (offer_during st run c d)

    during_between : (st : State Coded ℕ) (run : Running) → During st run → Between (suc k) st run
    during_between (going t' w) run d = (d.0, rw d.1 (omega (arith, length-append t (e ∷ []))), rw d.1 d.2)
    during_between (ended x l) run d = d

  -- one slot is taken
  take_between : (k : ℕ) (t w : Entries) (run : Running)
      → Between k (going t w) run → Between (suc k) (taking (going t w)) (take_slot T room k run)
  unfolding take_next take_slot
  take_between k t [] run b =
      let out = le_ltb k (length run.slots) (omega (arith, b.1, numbered_length b.2, length-append t [])) in
      rw out (refl, rw (append-nil t) at b.2)
  take_between k t (e ∷ w) run b =
      let below = lt_ltb k (length run.slots) (omega (arith, b.1, numbered_length b.2, length-append t (e ∷ w))) in
      let at-k : (slot_at run.slots k).at ≡ e.at =
      numbered_at b.2 k ∙ ap (λ (x : Entry Coded ℕ). x.at) (get_or_at t e w no_entry k b.1) in
      let st : State Coded ℕ = going (t ++ (e ∷ [])) w in
      let cs : List (Child Coded ℕ) = children_coded T e.at in
      rw (below, at-k)
      (during_between k t e b.1 (offering_all e.way st cs) (offer_slots room k run cs)
      (offers_during k t e b.1 cs st run (b.0, refl, rw (append_assoc t (e ∷ []) w) b.2)))

  turns_between : (n k : ℕ) (st : State Coded ℕ) (run : Running)
      → Between k st run → Between (n + k) (turning n st) (slot_turns T room n k run)
  unfolding take_next
  turns_between zero k st run b = rw (zero-add k) b
  turns_between (suc n) k (ended x l) run b =
      rw (stopped x run b.0, ended_turns same_coded finished_coded (children_coded T) room n x l) b
  turns_between (suc n) k (going t w) run b =
      let goes : is_going run.status ≡ true = ap is_going b.0 in
      rw (goes, suc-add n k, ← add-suc n k)
      (turns_between n (suc k) (taking (going t w)) (take_slot T room k run) (take_between k t w run b))

  first_between : (s : Coded)
      → Between 0 (entering [] [] (record { at = s; way = [] })) (enter_slot room [] (record { at = s; parent = 0; step = 0 }))
  unfolding enter enter_slot
  first_between s =
      by_bool (leb room 0)
      (λ h. rw h (refl, numbered_none))
      (λ h. by_bool (finished_coded s)
      (λ f. rw (h, f) (refl, numbered_first s))
      (λ f. rw (h, f) (refl, refl, numbered_first s)))

  module _ (s : Coded) where
    abbrev the_search : State Coded ℕ
    the_search = search same_coded finished_coded (children_coded T) room s

    abbrev the_end : End Coded ℕ
    the_end = how the_search

    abbrev the_entries : Entries
    the_entries = entries the_search

    between : Between (suc room + 0) the_search (slot_search T room s)
    unfolding search slot_search
    between =
        turns_between (suc room) 0 (entering [] [] (record { at = s; way = [] }))
        (enter_slot room [] (record { at = s; parent = 0; step = 0 })) (first_between s)

    over : Between (suc room + 0) (ended the_end the_entries) (slot_search T room s)
    over = rw (settled same_coded finished_coded (children_coded T) same_coded_equal equal_same_coded room s) at between

    -- The search over slots ends as the paper's does. It is never left going.
    pub slots_status : (slot_search T room s).status ≡ status_of the_end
    slots_status = over.0

    -- Its slots hold the paper's entries.
    pub slots_numbered : Numbered (slot_search T room s).slots the_entries
    slots_numbered = over.1

    -- Where it found a finished situation, that is in a slot.
    pub found_entered : (slot_search T room s).status ≡ Found → 0 < length (slot_search T room s).slots
    found_entered e = by_end the_end refl (sym slots_status ∙ e)
      where
        by_end : (x : End Coded ℕ) → the_end ≡ x → status_of x ≡ Found → 0 < length (slot_search T room s).slots
        by_end (found f) h k =
            let r = found_is_last same_coded finished_coded (children_coded T) same_coded_equal equal_same_coded room s f h in
            omega (arith, numbered_length slots_numbered, ap length r.1, length-append r.0 (f ∷ []))
        by_end used_up h k = absurd (let z : ◌≡◌ {A = ℕ} 0 1 = cc in omega arith)
        by_end no_room h k = absurd (let z : ◌≡◌ {A = ℕ} 0 1 = cc in omega arith)
        by_end too_long h k = absurd (let z : ◌≡◌ {A = ℕ} 0 1 = cc in omega arith)
