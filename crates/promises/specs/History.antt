-- 01, "The store": "The slots used are the accepted vCPU creations less those dropped by deletes, counted over the history from a
-- fresh store; 16 less that are free." Here is what is counted; `used_slots` are the slots used.
use Rattle.std.specs.Prelude.{ℕ, ◌+◌, Bool, ◌||◌, cond, List, [], ◌∷◌, eqb}
use Rattle.answer.specs.declared.Call.{Call as Name}
use Rattle.answer.specs.declared.Registers.{Registers}
use Rattle.answer.specs.Answer.{told, accepted}
use Rattle.store.specs.declared.Layout.{Layout}
use Rattle.store.specs.Search.{tally}
use Rattle.store.specs.Header.{holds}
use Rattle.store.specs.Store.{fresh}
use Rattle.admission.specs.Refusals.{has_bit0}
use Rattle.l0.specs.Calls.{Call, GetCapabilities, SetCapabilities, CreateGuest, CreateVcpu, GetState, SetState, RunVcpu, DeleteGuest, GuestClock, outcome}

-- the call's name in the table of answers
abbrev pub name_of : Call → Name
name_of (GetCapabilities flags) = Name.GetCapabilities
name_of (SetCapabilities flags bitmap) = Name.SetCapabilities
name_of (CreateGuest flags token) = Name.CreateGuest
name_of (CreateVcpu flags guest vcpu) = Name.CreateVcpu
name_of (GetState flags guest vcpu buffer) = Name.GetState
name_of (SetState flags guest vcpu buffer) = Name.SetState
name_of (RunVcpu flags guest vcpu input output effect exit) = Name.RunVcpu
name_of (DeleteGuest flags guest) = Name.DeleteGuest
name_of (GuestClock guest timebase) = Name.GuestClock

-- R3, R4 and R5 of a call on the store s
unfoldable pub registers : Layout → List ℕ → Call → Registers
registers l s c = told (name_of c) (outcome l s c).answer.fault (outcome l s c).answer.value

-- whether the call is accepted on the store s
unfoldable pub is_accepted : Layout → List ℕ → Call → Bool
is_accepted l s c = accepted (registers l s c)

-- What is counted over a history: the vCPUs created and not dropped so far, as (guest, vCPU), how many were created, and how many dropped.
pub record Count : Type 0 where
  pub vcpus : List (ℕ × ℕ)
  pub created : ℕ
  pub dropped : ℕ

abbrev pub nothing : Count
nothing = record { vcpus = []; created = 0; dropped = 0 }

-- the guests g that a delete is for: "delete bit 0 (all guests; the id is then ignored)"
abbrev pub deletes : ℕ → ℕ → ℕ → Bool
deletes flags guest g = has_bit0 flags || eqb g guest

-- it drops their vCPUs
unfoldable pub is_dropped : ℕ → ℕ → ℕ × ℕ → Bool
is_dropped flags guest v = deletes flags guest v.0

-- how many of the vCPUs have p, and those that have not
unfoldable pub how_many : (ℕ × ℕ → Bool) → List (ℕ × ℕ) → ℕ
how_many p [] = 0
how_many p (v ∷ vs) = cond (p v) 1 0 + how_many p vs

unfoldable pub without : (ℕ × ℕ → Bool) → List (ℕ × ℕ) → List (ℕ × ℕ)
without p [] = []
without p (v ∷ vs) = cond (p v) (without p vs) (v ∷ without p vs)

-- what an accepted call adds: "the accepted vCPU creations", and "those dropped by deletes"
abbrev pub counting : Count → Call → Count
counting n (GetCapabilities flags) = n
counting n (SetCapabilities flags bitmap) = n
counting n (CreateGuest flags token) = n
counting n (CreateVcpu flags guest vcpu) = record { vcpus = (guest, vcpu) ∷ n.vcpus; created = n.created + 1; dropped = n.dropped }
counting n (GetState flags guest vcpu buffer) = n
counting n (SetState flags guest vcpu buffer) = n
counting n (RunVcpu flags guest vcpu input output effect exit) = n
counting n (DeleteGuest flags guest) =
    record { vcpus = without (is_dropped flags guest) n.vcpus; created = n.created; dropped = n.dropped + how_many (is_dropped flags guest) n.vcpus }
counting n (GuestClock guest timebase) = n

-- "counted over the history": over the calls cs from the store s on, of which only the answers count
unfoldable pub counted_over : Layout → List ℕ → Count → List Call → Count
counted_over l s n [] = n
counted_over l s n (c ∷ cs) = counted_over l (outcome l s c).store (cond (is_accepted l s c) (counting n c) n) cs

-- "from a fresh store"
abbrev pub history : Layout → List Call → Count
history l cs = counted_over l (fresh l) nothing cs

-- how many slots are free: "unused words zero"
unfoldable pub free_slots : Layout → List ℕ → ℕ
free_slots l h = tally (holds l h 0) l.slots
