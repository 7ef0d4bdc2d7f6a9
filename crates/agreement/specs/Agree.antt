-- Demand 3: "For every list of cache writes, reads and runs on that vCPU, refused ones included, and whatever calls on other guests stand
-- between them, every answer is the same for both". The theorem is `cache_agrees`.
use Rattle.std.specs.Prelude.{ℕ, zero, suc, ◌^◌, ◌≤◌, ◌<◌, ◌≡◌, Bool, true, false, ◌&&◌, cond, List, [], ◌∷◌, ◌++◌, eqb, length}
use Rattle.octets.specs.Bytes.{bytes_at, put, zeros}
use Rattle.answer.specs.declared.Answer.{Answer}
use Rattle.answer.specs.declared.Call.{Call as Name}
use Rattle.answer.specs.declared.Registers.{Registers}
use Rattle.answer.specs.Answer.{three, told, accepted}
use Rattle.elements.specs.Table.{thread_element}
use Rattle.rules.specs.Rules.{between, good_input, good_output}
use Rattle.gsb.specs.Walk.{count_of}
use Rattle.gsb.specs.Message.{message, elements_in}
use Rattle.store.specs.declared.Layout.{Layout}
use Rattle.store.specs.Layout.{slot_bytes}
use Rattle.store.specs.Header.{header, slot_of}
use Rattle.store.specs.Store.{well_formed}
use Rattle.admission.specs.Target.{is_away, base_of}
use Rattle.state.specs.State.{pvr_of}
use Rattle.run.specs.Run.{input_size, output_size}
use Rattle.l0.specs.Calls.{Call, outcome}
use Rattle.promises.specs.History.{registers}
use Rattle.promises.specs.Apart.{Elsewhere}
use Rattle.l1.specs.Marks.{Cache}
use Rattle.l1.specs.Cache.{value_in, write_cache, read_cache, run_cache}
use Rattle.agreement.specs.Plain.{write_plain, read_plain, run_plain}

-- ---- an operation on the L1: a cache write, read or run of the vCPU, or a call on another guest
pub data Op : Type 0 where
  -- ID, value; and of a read the lent value buffer
  Write : ℕ → List ℕ → Op
  Read : ℕ → List ℕ → Op
  -- flags, input, output, effect, exit reason
  Run : ℕ → List ℕ → List ℕ → List ℕ → ℕ → Op
  Other : Call → Op

-- what is seen of it: R3, R4 and R5, and the buffer written: a read's value, a run's output, the other call's buffer
pub record Seen : Type 0 where
  pub answer : Registers
  pub buffer : List ℕ

abbrev pub seen : Name → Answer → List ℕ → Seen
seen c a b = record { answer = told c a.fault a.value; buffer = b }

-- 02, L4: "demand 3 compares R4 and R5 except that a cache write or read has R5 0 where set or get state has 4": where it tells 6, 7 or 8
-- with R5 4
abbrev pub is_excepted : Registers → Bool
is_excepted r = between 6 8 r.r3 && eqb r.r5 4

-- what a cache write or read tells where set or get state tells r: nothing else differs
abbrev pub as_cached : Registers → Registers
as_cached r = cond (is_excepted r) (three r.r3 r.r4 0) r

-- what is seen of an operation with the cache, where s is seen of it without
abbrev pub with_cache : Op → Seen → Seen
with_cache (Write id v) s = record { answer = as_cached s.answer; buffer = s.buffer }
with_cache (Read id v) s = record { answer = as_cached s.answer; buffer = s.buffer }
with_cache (Run flags input output effect exit) s = s
with_cache (Other c) s = s

-- an operation of an L1 whose state is an S: what is seen, the state after it, and a run's input after it
pub record Turn (S : Type 0) : Type 0 where
  pub shown : Seen
  pub next : S
  pub input : List ℕ

pub record Cached : Type 0 where
  pub cache : Cache
  pub store : List ℕ

-- Demand 3: "Nobody else writes to the stores or the cache." 01, "The L1 cache": "Each call gets the store and cache that the last one left,
-- and its own buffers." 02, L7: "Each cache call is told the PVR"
unfoldable pub cached_turn : Layout → ℕ → ℕ → ℕ → Op → Cached → Turn Cached
cached_turn l guest vcpu pvr (Write id v) b =
    let r = write_cache pvr b.cache id v in
    record { shown = seen Name.CacheWrite r.answer []; next = record { cache = r.cache; store = b.store }; input = [] }
cached_turn l guest vcpu pvr (Read id v) b =
    let r = read_cache l b.store guest vcpu pvr b.cache id v in
    record { shown = seen Name.CacheRead r.answer r.value; next = record { cache = r.cache; store = b.store }; input = [] }
cached_turn l guest vcpu pvr (Run flags input output effect exit) b =
    let r = run_cache l b.store b.cache flags guest vcpu pvr input output effect exit in
    record { shown = seen Name.CacheRun r.answer r.output; next = record { cache = r.cache; store = r.store }; input = r.input }
cached_turn l guest vcpu pvr (Other c) b =
    let o = outcome l b.store c in
    record { shown = record { answer = registers l b.store c; buffer = o.buffer }; next = record { cache = b.cache; store = o.store }; input = [] }

unfoldable pub plain_turn : Layout → ℕ → ℕ → Op → List ℕ → Turn (List ℕ)
plain_turn l guest vcpu (Write id v) s =
    let o = write_plain l s guest vcpu id v in
    record { shown = seen Name.SetState o.answer []; next = o.store; input = [] }
plain_turn l guest vcpu (Read id v) s =
    let o = read_plain l s guest vcpu id v in
    record { shown = seen Name.GetState o.answer (value_in o.buffer (length v)); next = o.store; input = [] }
plain_turn l guest vcpu (Run flags input output effect exit) s =
    let o = run_plain l s flags guest vcpu input output effect exit in
    record { shown = seen Name.RunVcpu o.answer o.buffer; next = o.store; input = zeros (length input) }
plain_turn l guest vcpu (Other c) s =
    let o = outcome l s c in
    record { shown = record { answer = registers l s c; buffer = o.buffer }; next = o.store; input = [] }

-- ---- Demand 3: "exactly the elements that accepted writes named since that vCPU's previous accepted run (or the start), once each, in order
-- of ID, with their newest values"
-- the accepted writes since then, newest first, by the operation and its answer alone; at the start there are none
unfoldable pub since : Op → Registers → List (ℕ × List ℕ) → List (ℕ × List ℕ)
since (Write id v) r ws = cond (accepted r) ((id, v) ∷ ws) ws
since (Read id v) r ws = ws
since (Run flags input output effect exit) r ws = cond (accepted r) [] ws
since (Other c) r ws = ws

-- the newest of them that names an ID, if one does
unfoldable pub newest : List (ℕ × List ℕ) → ℕ → List (ℕ × List ℕ)
newest [] id = []
newest (w ∷ ws) id = cond (eqb w.0 id) (w ∷ []) (newest ws id)

-- for each of the first n thread elements, in order of ID
unfoldable pub in_order : List (ℕ × List ℕ) → ℕ → List (ℕ × List ℕ)
in_order ws zero = []
in_order ws (suc n) = in_order ws n ++ newest ws (thread_element n).id

-- ---- Demand 3: "The cache's input for that run then holds a count and exactly the elements"
-- b, the lent input after the run, holds es. 01, "Run": "The input is the first bytes of the lent one, as many as registered."
pub record Holds (lent : List ℕ) (registered : ℕ) (es : List (ℕ × List ℕ)) (b : List ℕ) : Type 0 where
  -- a count and es in its first bytes, the rest as lent
  pub bytes : b ≡ put lent 0 (message es)
  -- and all of them: within the registered bytes, which lie within the lent ones
  pub fits : length (message es) ≤ registered
  pub within : registered ≤ length lent
  -- so that the run reads that count there, and those elements
  pub count : count_of (bytes_at b 0 registered) ≡ length es
  pub elements : elements_in (bytes_at b 0 registered) (length es) ≡ es

-- ---- what the two have in common after an operation o, before which the accepted writes were ws
-- a claim about the lent input of an accepted run
abbrev pub AfterRun : Op → Registers → (List ℕ → Type 0) → Type 0
AfterRun (Write id v) r claim = Unit {0}
AfterRun (Read id v) r claim = Unit {0}
AfterRun (Run flags input output effect exit) r claim = accepted r ≡ true → claim input
AfterRun (Other c) r claim = Unit {0}

pub record Same (registered : ℕ) (o : Op) (ws : List (ℕ × List ℕ)) (c : Turn Cached) (p : Turn (List ℕ)) : Type 0 where
  -- Demand 3: "every answer is the same for both, and so is every value buffer after a read, every output after a run and every buffer of
  -- those other calls"
  pub shown : c.shown ≡ with_cache o p.shown
  -- Demand 3: "After each accepted run of that vCPU the two stores are equal."
  pub stores : AfterRun o p.shown.answer (λ lent. c.next.store ≡ p.next)
  -- Demand 3: "The cache's input for that run then holds a count and exactly the elements that accepted writes named"
  pub input : AfterRun o p.shown.answer (λ lent. Holds lent registered (in_order ws 170) c.input)

-- the size of the run input that the vCPU has registered in the store s
abbrev pub registered_input : Layout → ℕ → ℕ → List ℕ → ℕ
registered_input l guest vcpu s = input_size s (base_of l s false guest vcpu)

-- 01, "The L1 cache": "Demand 3 is one claim about the whole list and not one for each call."
abbrev pub Agree : Layout → ℕ → ℕ → ℕ → List Op → List (ℕ × List ℕ) → Cached → List ℕ → Type 0
Agree l guest vcpu pvr [] ws b s = Unit {0}
Agree l guest vcpu pvr (o ∷ os) ws b s =
    Same (registered_input l guest vcpu b.store) o ws (cached_turn l guest vcpu pvr o b) (plain_turn l guest vcpu o s)
    × Agree l guest vcpu pvr os (since o (plain_turn l guest vcpu o s).shown.answer ws) (cached_turn l guest vcpu pvr o b).next (plain_turn l guest vcpu o s).next

-- ---- what it rests on
-- Demand 3: "whatever calls on other guests stand between them"; an ID is a number of 16 bits
abbrev pub Allowed : ℕ → List Op → Type 0
Allowed guest [] = Unit {0}
Allowed guest (Write id v ∷ os) = (id < 2 ^ 16) × Allowed guest os
Allowed guest (Read id v ∷ os) = (id < 2 ^ 16) × Allowed guest os
Allowed guest (Run flags input output effect exit ∷ os) = Allowed guest os
Allowed guest (Other c ∷ os) = Elsewhere guest c × Allowed guest os

-- Demand 3: "Take a well-formed store, a live vCPU in it with both run buffers registered, the input with at least 2,424 bytes, and an empty
-- cache of it kept by an L1."
pub record Start (l : Layout) (guest vcpu pvr : ℕ) (s : List ℕ) (c : Cache) : Type 0 where
  pub formed : well_formed l s ≡ true
  -- 01, "The L1 cache": "Live: a used slot word names the vCPU."
  pub live : slot_of l (header l s) guest vcpu < l.slots
  -- 02, L1: the vCPU is "live and not taken"
  pub here : is_away l s guest vcpu ≡ false
  -- 02, L7: "demand 3 holds where each is told the guest's PVR": the one that the guest has at the start
  pub told : pvr_of l s guest ≡ pvr
  pub input : good_input (registered_input l guest vcpu s) ≡ true
  pub wide : 2424 ≤ registered_input l guest vcpu s
  pub output : good_output (output_size s (base_of l s false guest vcpu)) ≡ true
  pub values : length c.values ≡ slot_bytes
  pub empty : c.marks ≡ zeros 6
