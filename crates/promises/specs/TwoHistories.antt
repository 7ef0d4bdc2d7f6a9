-- 02, L13: two histories from fresh small stores, written out, of which `isolated` speaks. The theorems are `isolated_met` and `both_see_lem`.
use Rattle.std.specs.Prelude.{ℕ, ◌^◌, List, [], ◌∷◌}
use Rattle.octets.specs.Bytes.{zeros}
use Rattle.answer.specs.Answer.{three}
use Rattle.store.specs.Layout.{small}
use Rattle.store.specs.Store.{fresh}
use Rattle.admission.specs.Refusals.{bit0, bit1}
use Rattle.l0.specs.Calls.{Call, SetCapabilities, CreateVcpu, GetState, SetState, DeleteGuest, GuestClock, outcome, after}
use Rattle.promises.specs.Edges.{one, new_guest}
use Rattle.promises.specs.Both.{Reply}

-- Guest 1's own calls: its vCPU 5 is created, taken, looked at in vain, given back, set and read; then its clock
abbrev pub own_create : Call
own_create = CreateVcpu 0 1 5

abbrev pub own_take : Call
own_take = GetState bit1 1 5 (zeros 1844)

abbrev pub own_give : Call
own_give = SetState bit1 1 5 (0x10 ∷ 0x0A ∷ zeros 22)

abbrev pub own_set : Call
own_set = SetState 0 1 5 (one 0x1003 8 7)

abbrev pub own_get : Call
own_get = GetState 0 1 5 (one 0x1003 8 0)

abbrev pub own_clock : Call
own_clock = GuestClock 1 9

-- in the first history it is alone
abbrev pub alone_start : List ℕ
alone_start = (outcome small (fresh small) new_guest).store

abbrev pub alone_calls : List Call
alone_calls = own_create ∷ own_take ∷ own_get ∷ own_give ∷ own_set ∷ own_get ∷ own_clock ∷ []

-- In the second there was a guest 1 before, which left an offset of 77 and a taken vCPU 5 when it was deleted; and another guest is in slot 0. Between
-- its calls a third one comes, capabilities are refused, the other guest's vCPU is taken, and that guest is deleted.
abbrev pub busy_before : List Call
busy_before = new_guest ∷ SetState bit0 1 0 (one 0x0004 8 77) ∷ own_create ∷ own_take ∷ new_guest ∷ DeleteGuest 0 1 ∷ CreateVcpu 0 2 3 ∷ []

abbrev pub busy_start : List ℕ
busy_start = (outcome small (after small (fresh small) busy_before) new_guest).store

abbrev pub busy_calls : List Call
busy_calls =
    new_guest ∷ own_create ∷ SetCapabilities 0 (2 ^ 62) ∷ own_take ∷ GetState bit1 2 3 (zeros 1844) ∷ own_get ∷ own_give ∷ own_set ∷ own_get ∷ DeleteGuest 0 2 ∷ own_clock ∷ []

-- What guest 1 sees in both: the form of a vCPU without values; 16; two sets accepted; the 7 that it set; and a clock of 9, to which nothing is added
abbrev pub both_see : List Reply
both_see =
    record { registers = three 0 0 0; buffer = 0x10 ∷ 0x0A ∷ zeros 1842 }
    ∷ record { registers = three 16 0 0; buffer = one 0x1003 8 0 }
    ∷ record { registers = three 0 0 0; buffer = [] }
    ∷ record { registers = three 0 0 0; buffer = [] }
    ∷ record { registers = three 0 0 0; buffer = one 0x1003 8 7 }
    ∷ record { registers = three 0 9 0; buffer = [] }
    ∷ []
