-- 02, L6: "any list of the eight calls and the clock gives the same answers and buffers on both, up to the first create that the small one answers
-- with 9". The theorems are `same_on_both` and `same_converted`.
use Rattle.std.specs.Prelude.{ℕ, Bool, true, false, ◌&&◌, cond, List, [], ◌∷◌, eqb}
use Rattle.answer.specs.declared.Registers.{Registers}
use Rattle.store.specs.declared.Layout.{Layout}
use Rattle.l0.specs.Calls.{Call, GetCapabilities, SetCapabilities, CreateGuest, CreateVcpu, GetState, SetState, RunVcpu, DeleteGuest, GuestClock, outcome}
use Rattle.promises.specs.History.{registers}

-- "the same answers and buffers": R3, R4 and R5 of a call, and the buffer that it writes
pub record Reply : Type 0 where
  pub registers : Registers
  pub buffer : List ℕ

unfoldable pub reply_to : Layout → List ℕ → Call → Reply
reply_to l s c = record { registers = registers l s c; buffer = (outcome l s c).buffer }

-- of each call of a list, from the store s on
unfoldable pub replies : Layout → List ℕ → List Call → List Reply
replies l s [] = []
replies l s (c ∷ cs) = reply_to l s c ∷ replies l (outcome l s c).store cs

abbrev pub is_create : Call → Bool
is_create (GetCapabilities flags) = false
is_create (SetCapabilities flags bitmap) = false
is_create (CreateGuest flags token) = true
is_create (CreateVcpu flags guest vcpu) = true
is_create (GetState flags guest vcpu buffer) = false
is_create (SetState flags guest vcpu buffer) = false
is_create (RunVcpu flags guest vcpu input output effect exit) = false
is_create (DeleteGuest flags guest) = false
is_create (GuestClock guest timebase) = false

-- a create that the store s answers with 9
unfoldable pub is_full : Layout → List ℕ → Call → Bool
is_full l s c = is_create c && eqb (registers l s c).r3 9

-- "up to the first" such create: the calls before it, all of them where there is none
unfoldable pub before_full : Layout → List ℕ → List Call → List Call
before_full l s [] = []
before_full l s (c ∷ cs) = cond (is_full l s c) [] (c ∷ before_full l (outcome l s c).store cs)
