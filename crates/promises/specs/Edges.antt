-- 01, "Around each edge": its starred cases in its order, as one table, and behind them the numbers of 02's requests. A row is what the rules
-- give and the number that the paper says.
-- Every answer is one of a call on a store that calls made from a fresh one.
use Rattle.std.specs.Prelude.{ℕ, suc, ◌+◌, ◌-◌, ◌*◌, ◌^◌, Bool, true, ◌&&◌, cond, List, [], ◌∷◌, ◌++◌, eqb, length}
use Rattle.octets.specs.Bytes.{bytes_at, be, digits, zeros}
use Rattle.elements.specs.declared.Scope.TheVariants.{Thread}
use Rattle.elements.specs.Table.{position}
use Rattle.store.specs.Layout.{small, slot_bytes, guest_at, slot_at}
use Rattle.store.specs.Header.{header, word, word_of}
use Rattle.store.specs.Store.{fresh}
use Rattle.admission.specs.Refusals.{bit0, bit1}
use Rattle.l0.specs.Calls.{Call, CreateGuest, CreateVcpu, GetState, SetState, RunVcpu, GuestClock, outcome, after}
use Rattle.promises.specs.History.{registers}

abbrev pub agrees : List (ℕ × ℕ) → Bool
agrees [] = true
agrees (x ∷ xs) = eqb x.0 x.1 && agrees xs

-- ---- buffers
-- an element of size bytes, whose value is the number v: of 0x0C01 the size, after the address 0
unfoldable pub element : ℕ → ℕ → ℕ → List ℕ
element id size v = digits 2 id ++ digits 2 size ++ digits size v

unfoldable pub buffer_of : ℕ → List ℕ → List ℕ
buffer_of n elements = digits 4 n ++ elements

unfoldable pub one : ℕ → ℕ → ℕ → List ℕ
one id size v = buffer_of 1 (element id size v)

-- ---- stores
abbrev pub new_guest : Call
new_guest = CreateGuest 0 (2 ^ 64 - 1)

-- guest 1 and its vCPU 0
unfoldable pub ready : List ℕ
ready = after small (fresh small) (new_guest ∷ CreateVcpu 0 1 0 ∷ [])

-- slot 0 for vCPU 2047 of guest 3, slot 1 for vCPU 0 of guest 1
unfoldable pub two_slots : List ℕ
two_slots = after small (fresh small) (new_guest ∷ new_guest ∷ new_guest ∷ CreateVcpu 0 3 2047 ∷ CreateVcpu 0 1 0 ∷ [])

-- guest 1's vCPU 0, whose values are zero, is taken
unfoldable pub parked : List ℕ → List ℕ
parked s = (outcome small s (GetState bit1 1 0 (zeros 1844))).store

-- ---- calls on guest 1's vCPU 0
abbrev pub set_thread : List ℕ → Call
set_thread b = SetState 0 1 0 b

abbrev pub get_thread : List ℕ → Call
get_thread b = GetState 0 1 0 b

-- with an output of 124 bytes, an empty effect and the exit 0x000, after an input of 28 bytes and that output were registered
abbrev pub run_thread : ℕ → List ℕ → Call
run_thread flags input = RunVcpu flags 1 0 input (digits 124 0) (digits 4 0) 0x000

unfoldable pub registered : List ℕ → List ℕ
registered s = (outcome small s (set_thread (buffer_of 2 (element 0x0C00 16 28 ++ element 0x0C01 16 124)))).store

-- 0x1003, then 0x1054, which is unlisted
unfoldable pub good_then_bad : List ℕ
good_then_bad = buffer_of 2 (element 0x1003 8 0 ++ element 0x1054 8 0)

unfoldable pub r3 : List ℕ → Call → ℕ
r3 s c = (registers small s c).r3

unfoldable pub r4 : List ℕ → Call → ℕ
r4 s c = (registers small s c).r4

unfoldable pub r5 : List ℕ → Call → ℕ
r5 s c = (registers small s c).r5

-- how many zeros a list begins with
unfoldable pub zeros_before : List ℕ → ℕ
zeros_before [] = 0
zeros_before (x ∷ xs) = cond (eqb x 0) (suc (zeros_before xs)) 0

-- the first byte of slot 0, whose values were zero, that a set of the element to all ones wrote
unfoldable pub placed : List ℕ → ℕ → ℕ → ℕ
placed s id size = zeros_before (bytes_at (outcome small s (set_thread (one id size (2 ^ (8 * size) - 1)))).store (slot_at small 0) slot_bytes)

-- what a get of 0x1003 reads after a set of the buffer
unfoldable pub read_after : List ℕ → List ℕ → ℕ
read_after s b = be (outcome small (outcome small s (set_thread b)).store (get_thread (one 0x1003 8 0))).buffer 8 8

-- the clock of guest 1 after its TB offset was set
unfoldable pub clock_with : List ℕ → ℕ → ℕ → ℕ
clock_with s offset timebase = r4 (outcome small s (SetState bit0 1 0 (one 0x0004 8 offset))).store (GuestClock 1 timebase)

-- what a guest-wide get of an element of 8 bytes reads
unfoldable pub read_wide : List ℕ → ℕ → ℕ
read_wide s id = be (outcome small s (GetState bit0 1 0 (one id 8 0))).buffer 8 8

-- giving back a form without values: its first byte has the version, 1, and four bits of the id
abbrev pub give_empty : ℕ → ℕ → Call
give_empty byte len = SetState bit1 1 0 (byte ∷ zeros (len - 1))

-- ---- the table, where s is `ready`, t is `two_slots`, and u is s with the vCPU taken
unfoldable pub edges_of : List ℕ → List ℕ → List ℕ → List (ℕ × ℕ)
edges_of s t u =
    -- "0x101F is at byte 288 of a slot, 0x1020 at 296; 0x1054 is 6."
    (position Thread 0x101F, 288) ∷ (placed s 0x101F 8, 288) ∷ (position Thread 0x1020, 296) ∷ (placed s 0x1020 8, 296) ∷ (r3 s (set_thread (one 0x1054 8 0)), 6)
    -- "0x200E at 768, 0x303F at 1,780; 0x200F is 6."
    ∷ (position Thread 0x200E, 768) ∷ (placed s 0x200E 4, 768) ∷ (position Thread 0x303F, 1780) ∷ (placed s 0x303F 16, 1780) ∷ (r3 s (set_thread (one 0x200F 4 0)), 6)
    -- "Count 0 in 4 bytes succeeds; 3 bytes is 5."
    ∷ (r3 s (set_thread (digits 4 0)), 0) ∷ (r3 s (get_thread (digits 4 0)), 0) ∷ (r3 s (set_thread (digits 3 0)), 5) ∷ (r3 s (get_thread (digits 3 0)), 5)
    -- "A NOP of 0 and of 3 bytes: both good."
    ∷ (r3 s (set_thread (one 0x0000 0 0)), 0) ∷ (r3 s (get_thread (one 0x0000 0 0)), 0) ∷ (r3 s (set_thread (one 0x0000 3 0)), 0) ∷ (r3 s (get_thread (one 0x0000 3 0)), 0)
    -- "Get 0x103A is 6, set is good; set 0xF000 is 6, get is good."
    ∷ (r3 s (get_thread (one 0x103A 8 0)), 6) ∷ (r3 s (set_thread (one 0x103A 8 0)), 0) ∷ (r3 s (set_thread (one 0xF000 8 0)), 6) ∷ (r3 s (get_thread (one 0xF000 8 0)), 0)
    -- "Set 0x1003 with size 4 is 7; 0x1054 with size 4 is 6."
    ∷ (r3 s (set_thread (one 0x1003 4 0)), 7) ∷ (r3 s (set_thread (one 0x1054 4 0)), 6)
    -- "0x0C01's size 123 is 8, 124 good, 65,536 good, 65,537 is 8."
    ∷ (r3 s (set_thread (one 0x0C01 16 123)), 8) ∷ (r3 s (set_thread (one 0x0C01 16 124)), 0) ∷ (r3 s (set_thread (one 0x0C01 16 65536)), 0) ∷ (r3 s (set_thread (one 0x0C01 16 65537)), 8)
    -- "0x1003 set to 1, then 2, in one buffer: 2."
    ∷ (read_after s (buffer_of 2 (element 0x1003 8 1 ++ element 0x1003 8 2)), 2)
    -- "Run flags 2^60: answer 2, R4 3."
    ∷ (r3 (registered s) (run_thread (2 ^ 60) (digits 28 0)), 2) ∷ (r4 (registered s) (run_thread (2 ^ 60) (digits 28 0)), 3)
    -- "0x1003 (8 bytes) then 0x1054: set state R4 1, run R4 16."
    ∷ (r3 s (set_thread good_then_bad), 6) ∷ (r4 s (set_thread good_then_bad), 1) ∷ (r3 (registered s) (run_thread 0 good_then_bad), 6) ∷ (r4 (registered s) (run_thread 0 good_then_bad), 16)
    -- 02, L4: "Set and get state .. keep R4 as the index and put the byte offset in R5; run keeps the offset in R4 and puts the index in R5"
    ∷ (r5 s (set_thread good_then_bad), 16) ∷ (r5 (registered s) (run_thread 0 good_then_bad), 1)
    -- "Slot word, guest 3, vCPU 2047: 0x9FFF; guest 1, vCPU 0: 0x8800."
    ∷ (word_of small 3 2047, 0x9FFF) ∷ (word small (header small t) 0, 0x9FFF) ∷ (word_of small 1 0, 0x8800) ∷ (word small (header small t) 1, 0x8800)
    -- 02, L2: "The starred clock case becomes: offset 2^64-1 acts as 0, clock 5. Offset 1, timebase 5 gives 16,777,221."
    ∷ (clock_with s (2 ^ 64 - 1) 5, 5) ∷ (clock_with s 1 5, 16777221)
    -- 02, L1: "0x0001 now reads 1,844"; "The store gains two bytes of taken marks after the slot words (29,580 bytes; values move by two)"
    ∷ (read_wide s 0x0001, 1844) ∷ (length s, 29580) ∷ (guest_at small 1, 44) ∷ (slot_at small 0, 460) ∷ (be u 42 2, 0x8000)
    -- "Both bits together are answer 2 with R4 1."
    ∷ (r3 s (GetState (bit0 + bit1) 1 0 (digits 4 0)), 2) ∷ (r4 s (GetState (bit0 + bit1) 1 0 (digits 4 0)), 1)
    ∷ (r3 s (SetState (bit0 + bit1) 1 0 (digits 4 0)), 2) ∷ (r4 s (SetState (bit0 + bit1) 1 0 (digits 4 0)), 1)
    -- "5 also on taking under 1,844 bytes (000's rule), on giving back under 24"
    ∷ (r3 s (GetState bit1 1 0 (zeros 1843)), 5) ∷ (r3 s (GetState bit1 1 0 (zeros 1844)), 0) ∷ (r3 u (give_empty 0x10 23), 5) ∷ (r3 u (give_empty 0x10 24), 0)
    -- "16 in get, set and run (create keeps 10) where the vCPU is taken, on giving back where it is not, after 4"
    ∷ (r3 u (get_thread (digits 4 0)), 16) ∷ (r3 u (set_thread (digits 4 0)), 16) ∷ (r3 u (run_thread 0 (digits 4 0)), 16) ∷ (r3 u (CreateVcpu 0 1 0), 10)
    ∷ (r3 u (GetState bit1 1 0 (zeros 1844)), 16) ∷ (r3 s (give_empty 0x10 24), 16) ∷ (r3 s (give_empty 0x10 23), 16) ∷ (r3 s (SetState bit1 1 1 (zeros 24)), 4)
    -- "17 after 5 where the bytes do not begin with a form of this vCPU": another version, another id
    ∷ (r3 u (give_empty 0x20 24), 17) ∷ (r3 u (give_empty 0x11 24), 17) ∷ (r3 u (give_empty 0x20 23), 5)
    ∷ []

unfoldable pub starred : List (ℕ × ℕ)
starred = edges_of ready two_slots (parked ready)
