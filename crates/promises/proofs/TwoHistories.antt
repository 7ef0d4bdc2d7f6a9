-- The hypotheses of `isolated` are met by two histories that differ (`isolated_met`), and it then says what guest 1 sees (`both_see_lem`). Assumes nothing.
use mathlib.Core.Path.{◌≡◌, refl, sym, ap, ap₂, ◌∙◌, subst}
use mathlib.Core.Bool.{true, false}
use mathlib.Core.List.{List, [], ◌∷◌}
use Prim.Native.Nat.{ℕ, ◌+◌, ◌-◌, ◌^◌}
use Rattle.octets.specs.Bytes.{bytes_at, put, be, digits, zeros}
use Rattle.octets.specs.Bits.{bit, bits, ins, set_bit, put_bits}
use Rattle.octets.proofs.Bytes.{put_same}
use Rattle.elements.specs.Table.{table, below, position, source_of, find, kind_of, numbered, thread_element}
use Rattle.elements.specs.Later.{offers, offer_of, is_later, later}
use Rattle.rules.specs.Rules.{allows, permits, size_fits, rule_of, good_value}
use Rattle.gsb.specs.Walk.{offset_at, judged, walk_on as next, walk, first_bad}
use Rattle.transfer.specs.Transfer.{put_from, put_as, applied, read_from, fill_as, filled}
use Rattle.handover.specs.Form.{size, is_zero, presence, head, kept, body, form, is_shown, next as formNext, read, sound, holds as formHolds, given, opens, begins, values_of, taken}
use Rattle.answer.specs.Answer.{three}
use Rattle.store.specs.Layout.{small, slot_bytes, slot_at}
use Rattle.store.specs.Search.{every, first as search}
use Rattle.store.specs.Header.{header, capabilities_of, live, word, word_of, is_used, guest_of, is_taken, holds, lacks, alone, slot_good, head_good, words_good, slot_holding, slot_of, free_slot, is_dead, free_guest, any_live}
use Rattle.store.specs.Store.{well_formed, fresh, put_live, put_word, put_taken, put_slot, with_guest, drop_word, drop_words, without_guest}
use Rattle.store.proofs.Search.{no_bool}
use Rattle.store.proofs.Sizes.{sound_small}
use Rattle.admission.specs.Refusals.{Outcome, bit0, bit1, decide}
use Rattle.admission.specs.Target.{base_of}
use Rattle.state.specs.HandOver.{take_vcpu, give_vcpu}
use Rattle.state.specs.State.{get_elements, get_state, set_elements, set_state}
use Rattle.guests.specs.Guests.{create_guest, create_vcpu, delete_guest}
use Rattle.l0.specs.Calls.{set_capabilities, guest_clock, Call, SetCapabilities, CreateVcpu, GetState, SetState, DeleteGuest, outcome, after}
use Rattle.promises.specs.History.{registers}
use Rattle.promises.specs.Edges.{element, buffer_of, one, new_guest}
use Rattle.promises.specs.Both.{Reply, reply_to}
use Rattle.promises.specs.Isolation.{Created, names, deletes_all, creates_vcpu, is_compared, SideBySide, end, second, common, replies_for}
use Rattle.promises.specs.TwoHistories.{own_create, own_take, own_give, own_set, own_get, own_clock, alone_start, alone_calls, busy_before, busy_start, busy_calls, both_see}
use Rattle.promises.proofs.Kept.{decided}
use Rattle.promises.proofs.Edges.{plain, vcpu_made}
use Rattle.promises.proofs.Isolated.{own_next, isolated}

-- the marks of slots 0 to 7
abbrev marked : List ℕ → ℕ → List ℕ
marked s b = put s 42 (b ∷ [])

-- zeros written where values are zero change nothing. Computed, each of the 1,820 would be a walk through the store.
zeroed : (s : List ℕ) (j : ℕ) → bytes_at s (slot_at small j) slot_bytes ≡ zeros slot_bytes → put s (slot_at small j) (zeros slot_bytes) ≡ s
zeroed s j z = ap (put s (slot_at small j)) (sym z) ∙ put_same s (slot_at small j) slot_bytes

no_values : values_of (0x10 ∷ 0x0A ∷ zeros 22) ≡ zeros slot_bytes
unfolding bytes_at zeros bit table below position source_of find kind_of numbered thread_element size is_shown formNext read given
no_values = refl

handed_is : (s t : List ℕ) (j b : ℕ) → put_taken small s j b ≡ t → bytes_at s (slot_at small j) slot_bytes ≡ zeros slot_bytes → put_taken small (put s (slot_at small j) (zeros slot_bytes)) j b ≡ t
handed_is s t j b e z = ap (λ (x : List ℕ). put_taken small x j b) (zeroed s j z) ∙ e

given_is : (s t : List ℕ) (j : ℕ) → put_taken small s j 0 ≡ t → bytes_at s (slot_at small j) slot_bytes ≡ zeros slot_bytes → put_taken small (put s (slot_at small j) (values_of (0x10 ∷ 0x0A ∷ zeros 22))) j 0 ≡ t
given_is s t j e z = ap (λ (v : List ℕ). put_taken small (put s (slot_at small j) v) j 0) no_values ∙ handed_is s t j 0 e z

-- ---- the stores before guest 1 is created anew
abbrev old : List ℕ → List ℕ
old s = put s 48 (digits 8 77)

abbrev b₁ : List ℕ
b₁ = old (plain (0x80 ∷ []))

abbrev b₂ : List ℕ
b₂ = old (plain (0x80 ∷ 0 ∷ 0x88 ∷ 0x05 ∷ []))

abbrev b₃ : List ℕ
b₃ = marked b₂ 0x80

abbrev b₄ : List ℕ
b₄ = marked (old (plain (0xC0 ∷ 0 ∷ 0x88 ∷ 0x05 ∷ []))) 0x80

abbrev b₅ : List ℕ
b₅ = old (plain (0x40 ∷ []))

abbrev b₆ : List ℕ
b₆ = old (plain (0x40 ∷ 0 ∷ 0x90 ∷ 0x03 ∷ []))

record Before : Type 0 where
  came : (outcome small (fresh small) new_guest).store ≡ plain (0x80 ∷ [])
  set_old : (outcome small (plain (0x80 ∷ [])) (SetState bit0 1 0 (one 0x0004 8 77))).store ≡ b₁
  made : (outcome small b₁ own_create).store ≡ b₂
  took : (outcome small b₂ own_take).store ≡ b₃
  second_came : (outcome small b₃ new_guest).store ≡ b₄
  left : (outcome small b₄ (DeleteGuest 0 1)).store ≡ b₅
  other : (outcome small b₅ (CreateVcpu 0 2 3)).store ≡ b₆

before : Before
unfolding bytes_at put be digits zeros bit bits ins set_bit put_bits table below position source_of find kind_of allows offers offer_of is_later later permits size_fits rule_of good_value offset_at judged next walk first_bad put_from put_as applied every search header capabilities_of live word word_of is_used guest_of is_taken holds lacks alone slot_good head_good words_good slot_holding slot_of free_slot is_dead free_guest well_formed fresh put_live put_word put_taken put_slot with_guest drop_word drop_words without_guest decide base_of get_state set_elements set_state take_vcpu taken create_guest create_vcpu delete_guest outcome element buffer_of one
before = record {
  came = refl;
  set_old = refl;
  made = vcpu_made b₁ b₂ 0 1 5 refl refl;
  took = handed_is b₂ b₃ 0 1 refl refl;
  second_came = refl;
  left = refl;
  other = vcpu_made b₅ b₆ 0 2 3 refl refl;
}

-- the first of a list of calls made
after_first : (s u : List ℕ) (c : Call) (cs : List Call) (v : List ℕ) → (outcome small s c).store ≡ u → after small u cs ≡ v → after small s (c ∷ cs) ≡ v
unfolding after
after_first s u c cs v e r = ap (λ (x : List ℕ). after small x cs) e ∙ r

after_last : (s u : List ℕ) (c : Call) → (outcome small s c).store ≡ u → after small s (c ∷ []) ≡ u
unfolding after
after_last s u c e = e

before_is : after small (fresh small) busy_before ≡ b₆
before_is =
    after_first _ _ new_guest _ b₆ before.came (after_first _ _ (SetState bit0 1 0 (one 0x0004 8 77)) _ b₆ before.set_old
    (after_first _ _ own_create _ b₆ before.made (after_first _ _ own_take _ b₆ before.took
    (after_first _ _ new_guest _ b₆ before.second_came (after_first _ _ (DeleteGuest 0 1) _ b₆ before.left (after_last _ _ (CreateVcpu 0 2 3) before.other))))))

-- ---- guest 1 is created
record Told (s : List ℕ) : Type 0 where
  accepted : (registers small s new_guest).r3 ≡ 0
  id : (registers small s new_guest).r4 ≡ 1

told_both : Told (fresh small) × Told b₆
unfolding bytes_at put be digits zeros bit bits ins set_bit put_bits every search header capabilities_of live word word_of is_used guest_of is_taken holds lacks alone slot_good head_good words_good slot_holding slot_of free_slot is_dead free_guest well_formed fresh put_live with_guest decide create_guest outcome registers
told_both = (record { accepted = refl; id = refl }, record { accepted = refl; id = refl })

alone_created : Created small 1
unfolding after
alone_created = record { before = []; flags = 0; token = 2 ^ 64 - 1; accepted = told_both.0.accepted; id = told_both.0.id }

busy_created : Created small 1
busy_created =
    let w = subst Told (sym before_is) told_both.1 in
    record { before = busy_before; flags = 0; token = 2 ^ 64 - 1; accepted = w.accepted; id = w.id }

-- ---- from then on: the stores of the first history, and of the second, in which the old value is gone
abbrev s₀ : List ℕ
s₀ = plain (0x80 ∷ [])

abbrev s₁ : List ℕ
s₁ = plain (0x80 ∷ 0 ∷ 0x88 ∷ 0x05 ∷ [])

abbrev s₂ : List ℕ
s₂ = marked s₁ 0x80

abbrev s₃ : List ℕ
s₃ = put s₁ (slot_at small 0 + 64) (digits 8 7)

abbrev t₀ : List ℕ
t₀ = plain (0xC0 ∷ 0 ∷ 0x90 ∷ 0x03 ∷ [])

abbrev t₁ : List ℕ
t₁ = plain (0xE0 ∷ 0 ∷ 0x90 ∷ 0x03 ∷ [])

abbrev t₂ : List ℕ
t₂ = plain (0xE0 ∷ 0 ∷ 0x90 ∷ 0x03 ∷ 0x88 ∷ 0x05 ∷ [])

abbrev t₃ : List ℕ
t₃ = marked t₂ 0x40

abbrev t₄ : List ℕ
t₄ = marked t₂ 0xC0

abbrev t₅ : List ℕ
t₅ = marked t₂ 0x80

abbrev t₆ : List ℕ
t₆ = put t₅ (slot_at small 1 + 64) (digits 8 7)

abbrev t₇ : List ℕ
t₇ = put (plain (0xA0 ∷ 0 ∷ 0 ∷ 0 ∷ 0x88 ∷ 0x05 ∷ [])) (slot_at small 1 + 64) (digits 8 7)

-- a get of elements leaves the store
got : (s : List ℕ) → (outcome small s own_get).store ≡ s
unfolding outcome get_state get_elements
got s = decided (λ (o : Outcome). o.store ≡ s) s (one 0x1003 8 0) _ _ (λ f. refl) (λ p. refl)

record Stores : Type 0 where
  s_create : (outcome small s₀ own_create).store ≡ s₁
  s_take : (outcome small s₁ own_take).store ≡ s₂
  s_give : (outcome small s₂ own_give).store ≡ s₁
  s_set : (outcome small s₁ own_set).store ≡ s₃
  t_start : (outcome small b₆ new_guest).store ≡ t₀
  t_third : (outcome small t₀ new_guest).store ≡ t₁
  t_create : (outcome small t₁ own_create).store ≡ t₂
  t_caps : (outcome small t₂ (SetCapabilities 0 (2 ^ 62))).store ≡ t₂
  t_take : (outcome small t₂ own_take).store ≡ t₃
  t_other : (outcome small t₃ (GetState bit1 2 3 (zeros 1844))).store ≡ t₄
  t_give : (outcome small t₄ own_give).store ≡ t₅
  t_set : (outcome small t₅ own_set).store ≡ t₆
  t_drop : (outcome small t₆ (DeleteGuest 0 2)).store ≡ t₇

stores : Stores
unfolding bytes_at put be digits zeros bit bits ins set_bit put_bits table below position source_of find kind_of thread_element allows offers offer_of is_later later permits size_fits rule_of good_value offset_at judged next walk first_bad put_from put_as applied every search header capabilities_of live word word_of is_used guest_of is_taken holds lacks alone slot_good head_good words_good slot_holding slot_of free_slot is_dead free_guest any_live well_formed fresh put_live put_word put_taken put_slot with_guest drop_word drop_words without_guest decide base_of get_elements get_state set_elements set_state take_vcpu give_vcpu taken size is_shown formNext sound formHolds opens begins set_capabilities create_guest create_vcpu delete_guest outcome element buffer_of one
stores = record {
  s_create = vcpu_made s₀ s₁ 0 1 5 refl refl;
  s_take = handed_is s₁ s₂ 0 1 refl refl;
  s_give = given_is s₂ s₁ 0 refl refl;
  s_set = refl;
  t_start = refl;
  t_third = refl;
  t_create = vcpu_made t₁ t₂ 1 1 5 refl refl;
  t_caps = refl;
  t_take = handed_is t₂ t₃ 1 1 refl refl;
  t_other = handed_is t₃ t₄ 0 1 refl refl;
  t_give = given_is t₄ t₅ 1 refl refl;
  t_set = refl;
  t_drop = refl;
}

-- ---- side by side, the store that a call leaves given
abbrev Side : List ℕ → List ℕ → List Call → List Call → Type 0
Side = SideBySide small small 1

alone_next : (s t v : List ℕ) (cs ds : List Call) (c : Call) → names 1 c ≡ false → deletes_all c ≡ false → (outcome small t c).store ≡ v → Side s v cs ds → Side s t cs (c ∷ ds)
alone_next s t v cs ds c n d e r = second c n d (subst (λ (x : List ℕ). Side s x cs ds) (sym e) r)

both_next : (s t u v : List ℕ) (cs ds : List Call) (c : Call) → names 1 c ≡ true → capabilities_of (header small t) ≡ capabilities_of (header small s)
    → (creates_vcpu c ≡ true → (registers small t c).r3 ≡ (registers small s c).r3) → (outcome small s c).store ≡ u → (outcome small t c).store ≡ v → Side u v cs ds → Side s t (c ∷ cs) (c ∷ ds)
both_next s t u v cs ds c n e r p q k = common c n e r (subst (λ (x : List ℕ). Side x (outcome small t c).store cs ds) (sym p) (subst (λ (x : List ℕ). Side u x cs ds) (sym q) k))

side : Side s₀ t₀ alone_calls busy_calls
unfolding bytes_at put be digits zeros bit bits every search header capabilities_of live word word_of is_used guest_of is_taken holds lacks alone slot_good head_good words_good slot_holding slot_of free_slot well_formed fresh decide create_vcpu outcome registers
side =
    alone_next s₀ t₀ t₁ alone_calls _ new_guest refl refl stores.t_third
    (both_next s₀ t₁ s₁ t₂ _ _ own_create refl refl (λ i. refl) stores.s_create stores.t_create
    (alone_next s₁ t₂ t₂ _ _ (SetCapabilities 0 (2 ^ 62)) refl refl stores.t_caps
    (both_next s₁ t₂ s₂ t₃ _ _ own_take refl refl (λ i. absurd (no_bool i)) stores.s_take stores.t_take
    (alone_next s₂ t₃ t₄ _ _ (GetState bit1 2 3 (zeros 1844)) refl refl stores.t_other
    (both_next s₂ t₄ s₂ t₄ _ _ own_get refl refl (λ i. absurd (no_bool i)) (got s₂) (got t₄)
    (both_next s₂ t₄ s₁ t₅ _ _ own_give refl refl (λ i. absurd (no_bool i)) stores.s_give stores.t_give
    (both_next s₁ t₅ s₃ t₆ _ _ own_set refl refl (λ i. absurd (no_bool i)) stores.s_set stores.t_set
    (both_next s₃ t₆ s₃ t₆ _ _ own_get refl refl (λ i. absurd (no_bool i)) (got s₃) (got t₆)
    (alone_next s₃ t₆ t₇ _ _ (DeleteGuest 0 2) refl refl stores.t_drop
    (common own_clock refl refl (λ i. absurd (no_bool i)) end))))))))))

busy_start_lem : busy_start ≡ t₀
busy_start_lem = ap (λ (s : List ℕ). (outcome small s new_guest).store) before_is ∙ stores.t_start

-- so the hypotheses are met
pub isolated_met : SideBySide small small 1 alone_start busy_start alone_calls busy_calls
isolated_met = subst (λ (s : List ℕ). Side s busy_start alone_calls busy_calls) (sym before.came) (subst (λ (t : List ℕ). Side s₀ t alone_calls busy_calls) (sym busy_start_lem) side)

-- and the theorem says something of them
same_seen : replies_for small 1 busy_start busy_calls ≡ replies_for small 1 alone_start alone_calls
unfolding after alone_created busy_created
same_seen = isolated small small sound_small sound_small 1 alone_created busy_created alone_calls busy_calls isolated_met

-- ---- what guest 1 sees where it is alone, computed from store to store
record Seen : Type 0 where
  live₀ : live small (header small s₀) 1 ≡ true
  live₁ : live small (header small s₁) 1 ≡ true
  live₂ : live small (header small s₂) 1 ≡ true
  live₃ : live small (header small s₃) 1 ≡ true
  take : reply_to small s₁ own_take ≡ record { registers = three 0 0 0; buffer = 0x10 ∷ 0x0A ∷ zeros 1842 }
  away : reply_to small s₂ own_get ≡ record { registers = three 16 0 0; buffer = one 0x1003 8 0 }
  give : reply_to small s₂ own_give ≡ record { registers = three 0 0 0; buffer = [] }
  set : reply_to small s₁ own_set ≡ record { registers = three 0 0 0; buffer = [] }
  get : reply_to small s₃ own_get ≡ record { registers = three 0 0 0; buffer = one 0x1003 8 7 }
  clock : reply_to small s₃ own_clock ≡ record { registers = three 0 9 0; buffer = [] }

seen : Seen
unfolding bytes_at put be digits zeros bit bits table below position source_of find kind_of numbered thread_element allows offers offer_of is_later later permits size_fits rule_of good_value offset_at judged next walk first_bad put_from put_as applied read_from fill_as filled every search header capabilities_of live word word_of is_used guest_of is_taken holds lacks alone slot_good head_good words_good slot_holding slot_of well_formed fresh decide base_of get_elements get_state set_elements set_state take_vcpu give_vcpu taken size is_zero presence head kept body form is_shown formNext sound formHolds opens begins guest_clock outcome registers reply_to element buffer_of one
seen = record { live₀ = refl; live₁ = refl; live₂ = refl; live₃ = refl; take = refl; away = refl; give = refl; set = refl; get = refl; clock = refl }

-- the first call's reply, and those of the others on the store that it leaves
listed : (s u : List ℕ) (c : Call) (cs : List Call) (x : Reply) (xs : List Reply) → live small (header small s) 1 ≡ true → names 1 c ≡ true → is_compared c ≡ true
    → (outcome small s c).store ≡ u → reply_to small s c ≡ x → replies_for small 1 u cs ≡ xs → replies_for small 1 s (c ∷ cs) ≡ x ∷ xs
listed s u c cs x xs lv n k e q r =
    own_next small 1 s lv c cs n ∙ simp k (ap₂ (λ (y : Reply) (ys : List Reply). y ∷ ys) q (ap (λ (v : List ℕ). replies_for small 1 v cs) e ∙ r))

listed_none : (s : List ℕ) → replies_for small 1 s [] ≡ []
unfolding replies_for
listed_none s = refl

alone_sees : replies_for small 1 s₀ alone_calls ≡ both_see
alone_sees =
    own_next small 1 s₀ seen.live₀ own_create _ refl ∙ ap (λ (s : List ℕ). replies_for small 1 s (own_take ∷ own_get ∷ own_give ∷ own_set ∷ own_get ∷ own_clock ∷ [])) stores.s_create
    ∙ listed s₁ s₂ own_take _ _ _ seen.live₁ refl refl stores.s_take seen.take
    (listed s₂ s₂ own_get _ _ _ seen.live₂ refl refl (got s₂) seen.away
    (listed s₂ s₁ own_give _ _ _ seen.live₂ refl refl stores.s_give seen.give
    (listed s₁ s₃ own_set _ _ _ seen.live₁ refl refl stores.s_set seen.set
    (listed s₃ s₃ own_get _ _ _ seen.live₃ refl refl (got s₃) seen.get
    (listed s₃ (outcome small s₃ own_clock).store own_clock [] _ _ seen.live₃ refl refl refl seen.clock (listed_none (outcome small s₃ own_clock).store))))))

pub both_see_lem : (replies_for small 1 alone_start alone_calls ≡ both_see) × (replies_for small 1 busy_start busy_calls ≡ both_see)
both_see_lem = let e = ap (λ (s : List ℕ). replies_for small 1 s alone_calls) before.came ∙ alone_sees in (e, same_seen ∙ e)

-- ---- what this rests on: were a definition otherwise, guest 1 would see it
-- A create that leaves old values shows the old offset, rounded up, in the clock. A delete of guest 2 that leaves its slot word, or only its mark,
-- leaves a store that is not well formed, and the clock answers 1. An answer that told the slot of vCPU 5 would tell 0 in one history and 1 in the other.
pub seen_otherwise : ((registers small (put_live b₆ 1 1) own_clock).r4 ≡ 9 + 2 ^ 24)
    × ((registers small (put_live (put_taken small t₆ 0 0) 2 0) own_clock).r3 ≡ 1)
    × ((registers small (put_live (put_word small t₆ 0 0) 2 0) own_clock).r3 ≡ 1)
    × (slot_of small (header small s₁) 1 5 ≡ 0)
    × (slot_of small (header small t₂) 1 5 ≡ 1)
unfolding bytes_at put be digits zeros bit bits ins set_bit put_bits table below position every search header capabilities_of live word word_of is_used guest_of is_taken holds lacks alone slot_good head_good words_good slot_holding slot_of well_formed fresh put_live put_word put_taken decide guest_clock outcome registers
seen_otherwise = (refl, refl, refl, refl, refl)
