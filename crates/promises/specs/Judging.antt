-- 02, L10: words of what is promised of a judged output that no definition needs.
use Rattle.std.specs.Prelude.{ℕ, ◌+◌, ◌≤◌, ◌≡◌, true, false, List, [], ◌∷◌, ◌++◌}
use Rattle.octets.specs.Bytes.{bytes_at, put, digits}
use Rattle.answer.specs.declared.Registers.{Registers}
use Rattle.elements.specs.declared.Scope.TheVariants.{Thread}
use Rattle.elements.specs.Table.{position}
use Rattle.store.specs.declared.Layout.{Layout}
use Rattle.store.specs.Layout.{small, slot_at}
use Rattle.store.specs.Store.{fresh}
use Rattle.admission.specs.Target.{base_of}
use Rattle.run.specs.Run.{output_size}
use Rattle.l0.specs.Calls.{RunVcpu, outcome}
use Rattle.judging.specs.Judging.{is_ours, elements_of, times, judge_told}
use Rattle.promises.specs.Edges.{element, buffer_of, one}

-- "the smallest missing ID": it is of this exit and not there, and every other such ID is greater
pub record SmallestMissing (ours : List (ℕ × List ℕ)) (b : List ℕ) (id : ℕ) : Type 0 where
  pub of_exit : is_ours ours id ≡ true
  pub missing : times id (elements_of b) ≡ 0
  pub smallest : (other : ℕ) → is_ours ours other ≡ true → times other (elements_of b) ≡ 0 → id ≤ other

-- "Our own output, as registered, with its exit reason and the store its run left": the store that a run leaves
unfoldable pub left_by_run : Layout → List ℕ → ℕ → ℕ → ℕ → List ℕ → List ℕ → List ℕ → ℕ → List ℕ
left_by_run l s flags guest vcpu input output effect exit = (outcome l s (RunVcpu flags guest vcpu input output effect exit)).store

-- its output: the first bytes of the lent one, as many as are registered
unfoldable pub own_output : Layout → List ℕ → ℕ → ℕ → ℕ → List ℕ → List ℕ → List ℕ → ℕ → List ℕ
own_output l s flags guest vcpu input output effect exit =
    bytes_at (outcome l s (RunVcpu flags guest vcpu input output effect exit)).buffer 0 (output_size s (base_of l s false guest vcpu))

-- ---- each number of the request, on a small store with guest 1 and its vCPU 0 in slot 0, whose 0x102D is 7; exit 0xF80 returns 0x102D alone
unfoldable pub judged_store : List ℕ
judged_store = put (put (put (fresh small) 8 (0x80 ∷ [])) 10 (0x88 ∷ 0x00 ∷ [])) (slot_at small 0 + position Thread 0x102D) (digits 8 7)

-- the vCPU is taken
unfoldable pub taken_store : List ℕ
taken_store = put judged_store 42 (0x80 ∷ [])

abbrev pub tells : Registers → ℕ → ℕ → ℕ → List (ℕ × ℕ)
tells r a b c = (r.r3, a) ∷ (r.r4, b) ∷ (r.r5, c) ∷ []

abbrev pub judged : ℕ → List ℕ → Registers
judged exit b = judge_told small judged_store 1 0 exit b

unfoldable pub judge_edges : List (ℕ × ℕ)
judge_edges =
    -- "Our own output .. must always be accepted", and with NOPs anywhere and bytes behind it
    tells (judged 0xF80 (one 0x102D 8 7)) 0 0 0
    ++ tells (judged 0xF80 (buffer_of 3 (element 0x0000 3 0 ++ element 0x102D 8 7 ++ element 0x0000 0 0) ++ (9 ∷ []))) 0 0 0
    -- "20 with R4 the smallest missing ID": of a buffer that holds one NOP, and of one that holds nothing
    ++ tells (judged 0xF80 (one 0x0000 3 0)) 20 0x102D 0
    ++ tells (judged 0xC00 (digits 4 0)) 20 0x1003 0
    ++ tells (judged 0x980 (digits 4 0)) 0 0 0
    -- "6 (unlisted, not of this exit, repeated)", before its size is looked at
    ++ tells (judged 0xF80 (one 0x1054 4 0)) 6 0 4
    ++ tells (judged 0xF80 (buffer_of 2 (element 0x102D 8 7 ++ element 0x1003 8 0))) 6 1 16
    ++ tells (judged 0xF80 (buffer_of 2 (element 0x102D 8 7 ++ element 0x102D 4 7))) 6 1 16
    -- "7 (wrong size or cut)", "8 (wrong value)"
    ++ tells (judged 0xF80 (one 0x102D 4 7)) 7 0 4
    ++ tells (judged 0xF80 (buffer_of 2 (element 0x102D 8 7))) 7 1 16
    ++ tells (judged 0xF80 (one 0x102D 8 6)) 8 0 4
    -- "1, 3, 4, 16, 5, 13"
    ++ tells (judge_told small (digits 3 0) 1 0 1 (digits 3 0)) 1 0 0
    ++ tells (judge_told small judged_store 2 1 1 (digits 3 0)) 3 0 0
    ++ tells (judge_told small judged_store 1 1 1 (digits 3 0)) 4 0 0
    ++ tells (judge_told small taken_store 1 0 1 (digits 3 0)) 16 0 0
    ++ tells (judged 1 (digits 3 0)) 5 0 0
    ++ tells (judged 1 (digits 4 0)) 13 0 0
