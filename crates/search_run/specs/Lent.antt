-- The search in the lent buffer: what the code of the module `search` holds and does, by the search over slots (`Run`) that it stands for.
use Rattle.std.specs.Prelude.{ℕ, ◌*◌, ◌≤◌, ◌<◌, ◌≡◌, false, ◌&&◌, List, length}
use Rattle.paper.specs.Numbers.{situation_bytes, most_room}
use Rattle.paper.specs.Search.{Child, child}
use Rattle.base_places.specs.Masks.{within}
use Rattle.base_codes.specs.Coded.{Coded, as_struct, Short}
use Rattle.search_fronts.specs.Fronts.{takes_next}
use Rattle.search_children.specs.Children.{Tables, Settled, made, as_child}
use Rattle.search_children.specs.Laid.{child_of, tables}
use Rattle.search_children.specs.declared.Child.{Child as Made-child}
use Rattle.base_codes.specs.declared.Situation.{Situation}
use Rattle.search_run.specs.Run.{is_going, Running, enter_slot, offer_going, offer_slots, take_slot, slot_search}
use Rattle.search_buckets.specs.Buckets.{bucket, buckets, Kept}
use Rattle.search_slots.specs.Slots.{key, Slot}
use Rattle.search_run.specs.declared.search.Run.{Run}
use Rattle.search_children.specs.declared.Tables.{Tables as Lent-tables}

-- the buffer and the run stand for a search over slots
pub record Lent (work : List ℕ) (run : Run) (R : Running) : Type 0 where
  pub kept : Kept work R.slots
  pub entered : run.entered ≡ length R.slots
  pub status : run.status ≡ R.status

-- the buffer has room for so many slots, n of them are entered, and a parent's number is one that two bytes hold
pub record Roomy (work : List ℕ) (room n parent : ℕ) : Type 0 where
  pub fits : situation_bytes * room ≤ length work
  pub most : room ≤ most_room
  pub within : n ≤ room
  pub numbered : parent ≤ most_room

-- the tables that the search is lent, over no more characters than they have room for
abbrev pub tables_within : Lent-tables → Tables
tables_within t = tables (within t.characters) t.follow.now t.taking.now t.last

-- a character that two tokens in front don't both take, whatever the sets of their fields are after it
abbrev pub NotPut : ℕ → ℕ → ℕ → Type 0
NotPut a b c = (m n : ℕ) → (takes_next a m c && takes_next b n c) ≡ false

-- no character below n is put, of so many
abbrev pub StartsPuts : ℕ → ℕ → ℕ → ℕ → Type 0
StartsPuts characters a b n = (n ≤ characters) × ((c : ℕ) → c < n → NotPut a b c)

-- none from n on
abbrev pub EndsPuts : ℕ → ℕ → ℕ → ℕ → Type 0
EndsPuts characters a b n = (n ≤ characters) × ((c : ℕ) → n ≤ c → c < characters → NotPut a b c)

-- What each function does to the buffer and the run, which are work and run before it, work' and run' after it: the slots stay within
-- the room, and whatever search they stood for before, they stand after it for the one that the definition makes of that.
module _ (room : ℕ) where
  -- s is entered as slot n
  pub record Enters (n parent step : ℕ) (s : Situation) (work work' : List ℕ) (run' : Run) : Type 0 where
    pub within : run'.entered ≤ room
    pub more : n ≤ run'.entered
    pub lent : (k : Coded) (ss : List Slot) → s ≡ as_struct k → Short k → Kept work ss → length ss ≡ n
        → Lent work' run' (enter_slot room ss (record { at = k; parent = parent; step = step }))

  -- the same with its key and its bucket at hand, and room left
  pub record EntersWith (n parent step : ℕ) (bytes : List ℕ) (b : ℕ) (work work' : List ℕ) (run' : Run) : Type 0 where
    pub within : run'.entered ≤ room
    pub more : n ≤ run'.entered
    pub lent : (k : Coded) (ss : List Slot) → bytes ≡ key k → (b < buckets work) × (b ≡ bucket (buckets work) k) → Short k → Kept work ss → length ss ≡ n
        → Lent work' run' (enter_slot room ss (record { at = k; parent = parent; step = step }))

  -- a child that is made is offered, while the search goes on
  pub record OffersMade (n parent step : ℕ) (s : Situation) (work work' : List ℕ) (run' : Run) : Type 0 where
    pub within : run'.entered ≤ room
    pub more : n ≤ run'.entered
    pub lent : (k : Coded) (ss : List Slot) → s ≡ as_struct k → Short k → Kept work ss → length ss ≡ n
        → Lent work' run' (offer_going room parent ss (child step k))

  -- a child is offered
  pub record OffersChild (parent step : ℕ) (child : Made-child) (work : List ℕ) (run : Run) (work' : List ℕ) (run' : Run) : Type 0 where
    pub within : run'.entered ≤ room
    pub more : run.entered ≤ run'.entered
    pub lent : (R : Running) (x : Settled) → Lent work run R → child ≡ child_of x → ((t : Coded) → x ≡ made t → Short t)
        → Lent work' run' (offer_slots room parent R (as_child step x))

  -- children of s are offered
  pub record Offers (parent : ℕ) (s : Situation) (work : List ℕ) (run : Run) (work' : List ℕ) (run' : Run)
      (children : Coded → List (Child Coded ℕ)) : Type 0 where
    pub within : run'.entered ≤ room
    pub more : run.entered ≤ run'.entered
    pub lent : (R : Running) (k : Coded) → Lent work run R → s ≡ as_struct k → Short k
        → Lent work' run' (offer_slots room parent R (children k))

  -- slot k is taken
  pub record Takes (T : Tables) (k : ℕ) (work : List ℕ) (run : Run) (work' : List ℕ) (run' : Run) : Type 0 where
    pub within : run'.entered ≤ room
    pub more : run.entered ≤ run'.entered
    pub lent : (R : Running) → Lent work run R → Lent work' run' (take_slot T room k R)

  -- the whole search, which begins with s: it is over
  pub record Searches (T : Tables) (s : Situation) (work' : List ℕ) (run' : Run) : Type 0 where
    pub within : run'.entered ≤ room
    pub over : is_going run'.status ≡ false
    pub lent : (k : Coded) → s ≡ as_struct k → Short k → Lent work' run' (slot_search T room k)
