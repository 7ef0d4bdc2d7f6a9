-- 02, L13: "One guest cannot tell what another does." Two histories, of a store of the layout l and of one of m, and what is the same in both for
-- guest g, which is the request's A. The theorem is `isolated`; two histories of which it speaks are in TwoHistories.
use Rattle.std.specs.Prelude.{ℕ, ◌≡◌, Bool, true, false, ◌&&◌, cond, List, [], ◌∷◌, eqb}
use Rattle.store.specs.declared.Layout.{Layout}
use Rattle.store.specs.Header.{header, capabilities_of, live}
use Rattle.store.specs.Store.{fresh}
use Rattle.admission.specs.Refusals.{has_bit0}
use Rattle.l0.specs.Calls.{Call, GetCapabilities, SetCapabilities, CreateGuest, CreateVcpu, GetState, SetState, RunVcpu, DeleteGuest, GuestClock, outcome, after}
use Rattle.promises.specs.History.{registers}
use Rattle.promises.specs.Both.{Reply, reply_to}

-- ---- "Take two histories from fresh stores, in which guest A is created with the same id"
-- of one of them: any calls from a fresh store, then a create guest that is accepted and tells the id g
pub record Created (l : Layout) (g : ℕ) : Type 0 where
  pub before : List Call
  pub flags : ℕ
  pub token : ℕ
  pub accepted : (registers l (after l (fresh l) before) (CreateGuest flags token)).r3 ≡ 0
  pub id : (registers l (after l (fresh l) before) (CreateGuest flags token)).r4 ≡ g

-- the store that this create leaves: "from then on"
abbrev pub begun : (l : Layout) (g : ℕ) → Created l g → List ℕ
begun l g h = (outcome l (after l (fresh l) h.before) (CreateGuest h.flags h.token)).store

-- ---- what a call is
-- "the calls naming A": create vCPU, get, set, run, delete and clock with its number
abbrev pub names : ℕ → Call → Bool
names g (GetCapabilities flags) = false
names g (SetCapabilities flags bitmap) = false
names g (CreateGuest flags token) = false
names g (CreateVcpu flags guest vcpu) = eqb guest g
names g (GetState flags guest vcpu buffer) = eqb guest g
names g (SetState flags guest vcpu buffer) = eqb guest g
names g (RunVcpu flags guest vcpu input output effect exit) = eqb guest g
names g (DeleteGuest flags guest) = eqb guest g
names g (GuestClock guest timebase) = eqb guest g

-- "deletes all guests": delete with bit 0
abbrev pub deletes_all : Call → Bool
deletes_all (GetCapabilities flags) = false
deletes_all (SetCapabilities flags bitmap) = false
deletes_all (CreateGuest flags token) = false
deletes_all (CreateVcpu flags guest vcpu) = false
deletes_all (GetState flags guest vcpu buffer) = false
deletes_all (SetState flags guest vcpu buffer) = false
deletes_all (RunVcpu flags guest vcpu input output effect exit) = false
deletes_all (DeleteGuest flags guest) = has_bit0 flags
deletes_all (GuestClock guest timebase) = false

-- "where they create vCPUs"
abbrev pub creates_vcpu : Call → Bool
creates_vcpu (GetCapabilities flags) = false
creates_vcpu (SetCapabilities flags bitmap) = false
creates_vcpu (CreateGuest flags token) = false
creates_vcpu (CreateVcpu flags guest vcpu) = true
creates_vcpu (GetState flags guest vcpu buffer) = false
creates_vcpu (SetState flags guest vcpu buffer) = false
creates_vcpu (RunVcpu flags guest vcpu input output effect exit) = false
creates_vcpu (DeleteGuest flags guest) = false
creates_vcpu (GuestClock guest timebase) = false

-- "get, set, run and clock calls", hand-overs too, which are gets and sets. "Create calls are excepted, since ids and slots are shared"
abbrev pub is_compared : Call → Bool
is_compared (GetCapabilities flags) = false
is_compared (SetCapabilities flags bitmap) = false
is_compared (CreateGuest flags token) = false
is_compared (CreateVcpu flags guest vcpu) = false
is_compared (GetState flags guest vcpu buffer) = true
is_compared (SetState flags guest vcpu buffer) = true
is_compared (RunVcpu flags guest vcpu input output effect exit) = true
is_compared (DeleteGuest flags guest) = false
is_compared (GuestClock guest timebase) = true

-- ---- the two histories side by side: the calls xs from the store s of l on, and ys from the store t of m on
pub data SideBySide (l m : Layout) (g : ℕ) : List ℕ → List ℕ → List Call → List Call → Type 0 where
  end : {s t : List ℕ} → SideBySide l m g s t [] []
  -- "Other guests' calls differ at will; nobody deletes all guests": a call that the first history makes alone, or the second. A delete of all that
  -- names A is made in both, so that nothing is asked of it.
  first : {s t : List ℕ} {xs ys : List Call} (c : Call) → names g c ≡ false → deletes_all c ≡ false
      → SideBySide l m g (outcome l s c).store t xs ys → SideBySide l m g s t (c ∷ xs) ys
  second : {s t : List ℕ} {xs ys : List Call} (c : Call) → names g c ≡ false → deletes_all c ≡ false
      → SideBySide l m g s (outcome m t c).store xs ys → SideBySide l m g s t xs (c ∷ ys)
  -- "the calls naming A are the same in the same order, get the same buffers lent, meet the same capabilities, and succeed alike where they
  -- create vCPUs": the buffers lent are part of a call
  common : {s t : List ℕ} {xs ys : List Call} (c : Call) → names g c ≡ true
      → capabilities_of (header m t) ≡ capabilities_of (header l s)
      → (creates_vcpu c ≡ true → (registers m t c).r3 ≡ (registers l s c).r3)
      → SideBySide l m g (outcome l s c).store (outcome m t c).store xs ys → SideBySide l m g s t (c ∷ xs) (c ∷ ys)
  -- "until A is deleted": once it is, in both, anything may follow
  over : {s t : List ℕ} {xs ys : List Call} → live l (header l s) g ≡ false → live m (header m t) g ≡ false → SideBySide l m g s t xs ys

-- ---- "Then, from A's creation until A is deleted, get, set, run and clock calls on A give the same answers and buffers in both."
-- R3, R4, R5 and the written buffer of each such call among xs, from the store s on, as long as g is live
unfoldable pub replies_for : Layout → ℕ → List ℕ → List Call → List Reply
replies_for l g s [] = []
replies_for l g s (c ∷ cs) =
    cond (live l (header l s) g)
    (cond (names g c && is_compared c) (reply_to l s c ∷ replies_for l g (outcome l s c).store cs) (replies_for l g (outcome l s c).store cs))
    []

abbrev pub Isolated : Layout → Layout → ℕ → Type 0
Isolated l m g =
    (h : Created l g) (k : Created m g) (xs ys : List Call) → SideBySide l m g (begun l g h) (begun m g k) xs ys
    → replies_for m g (begun m g k) ys ≡ replies_for l g (begun l g h) xs
