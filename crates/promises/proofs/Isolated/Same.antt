-- Two stores, of two layouts, that are the same for one guest: whatever else they hold, and in whatever slots its vCPUs are. What every step of two
-- histories keeps.
use Prim.Native.Nat.{ℕ, ◌<◌}
use mathlib.Core.Path.{◌≡◌, sym}
use mathlib.Core.Bool.{true, false}
use mathlib.Core.List.{List}
use Rattle.store.specs.declared.Layout.{Layout}
use Rattle.store.specs.Header.{header, live, is_taken, slot_of}
use Rattle.store.specs.Store.{well_formed}
use Rattle.admission.specs.Refusals.{Outcome}
use Rattle.promises.specs.Mirror.{values_in}

-- a vCPU is in slot j of s and in slot k of t, taken in both or in neither, with the same values; or it is in neither store
pub data Paired (l m : Layout) (s t : List ℕ) (j k : ℕ) : Type 0 where
  present : j < l.slots → k < m.slots → is_taken m (header m t) k ≡ is_taken l (header l s) j → values_in m t false k ≡ values_in l s false j → Paired l m s t j k
  absent : j ≡ l.slots → k ≡ m.slots → Paired l m s t j k

pub record SameFor (l m : Layout) (g : ℕ) (s t : List ℕ) : Type 0 where
  pub formed : well_formed l s ≡ true
  pub formed' : well_formed m t ≡ true
  pub alive : live l (header l s) g ≡ true
  pub alive' : live m (header m t) g ≡ true
  pub guest : values_in m t true g ≡ values_in l s true g
  pub vcpus : (v : ℕ) → Paired l m s t (slot_of l (header l s) g v) (slot_of m (header m t) g v)

-- the two may be exchanged
paired_sym : {l m : Layout} {s t : List ℕ} {j k : ℕ} → Paired l m s t j k → Paired m l t s k j
paired_sym (present a b w e) = present b a (sym w) (sym e)
paired_sym (absent a b) = absent b a

pub same_sym : {l m : Layout} {g : ℕ} {s t : List ℕ} → SameFor l m g s t → SameFor m l g t s
same_sym f = record { formed = f.formed'; formed' = f.formed; alive = f.alive'; alive' = f.alive; guest = sym f.guest; vcpus = λ v. paired_sym (f.vcpus v) }

-- after a call that both histories make: still the same, or the guest is deleted in both
pub data Next (l m : Layout) (g : ℕ) (s t : List ℕ) : Type 0 where
  kept : SameFor l m g s t → Next l m g s t
  gone : live l (header l s) g ≡ false → live m (header m t) g ≡ false → Next l m g s t

pub record Agree (l m : Layout) (g : ℕ) (o p : Outcome) : Type 0 where
  pub answer : p.answer ≡ o.answer
  pub buffer : p.buffer ≡ o.buffer
  pub stores : Next l m g o.store p.store
