-- The hypotheses of `cache_agrees` can be met, by both lists: guest 1 with vCPU 0, an input of 2,424 bytes and an output of 124 registered; and
-- those of `all_changed`. Assumes nothing.
use mathlib.Core.Path.{◌≡◌, refl}
use mathlib.Core.Bool.{Bool, true, false, not, cond}
use Prim.Native.Nat.{ℕ, ◌<◌}
use native.Mathlib.Omega.{arith}
use lib.Dec.{lit<, lit≤}
use lib.ListN.{length}
use Rattle.octets.specs.Bytes.{bytes_at, put, be, digits, zeros}
use Rattle.octets.specs.Bits.{bit, bits}
use Rattle.octets.proofs.Bytes.{length_zeros}
use Rattle.elements.specs.Table.{table, below, position, find, kind_of, source_of, numbered, thread_element}
use Rattle.elements.specs.declared.Offer.TheVariants.{Full}
use Rattle.elements.specs.Later.{offers}
use Rattle.rules.specs.Rules.{allows, permits}
use Rattle.gsb.specs.Message.{message}
use Rattle.store.specs.Layout.{small}
use Rattle.store.specs.Search.{every, first}
use Rattle.store.specs.Header.{header, capabilities_of, live, word, word_of, is_used, guest_of, is_taken, holds, lacks, alone, slot_good, head_good, words_good, slot_holding, slot_of}
use Rattle.store.specs.Store.{well_formed, fresh}
use Rattle.store.proofs.Search.{every_at, no_bool}
use Rattle.admission.specs.Target.{base_of}
use Rattle.l1.specs.Marks.{is_marked, changed, is_input, mark_good, good_cache}
use Rattle.l1.specs.Cache.{pending}
use Rattle.agreement.specs.Agree.{Start}
use Rattle.agreement.specs.Example.{example_store, power9_store, example_cache, input_marks, full_cache}
use Rattle.agreement.proofs.Flush.{all_changed}

pub met : Start small 1 0 0 example_store example_cache × Start small 1 0 0x0F000005 power9_store example_cache
unfolding example_store power9_store example_cache bytes_at put be digits zeros bit bits table below position every first header capabilities_of live word word_of is_used guest_of is_taken holds lacks alone slot_good head_good words_good slot_holding slot_of well_formed fresh base_of
met = (
  record { formed = refl; live = lit< tt; here = refl; told = refl; input = refl; wide = lit≤ tt; output = refl; values = refl; empty = refl },
  record { formed = refl; live = lit< tt; here = refl; told = refl; input = refl; wide = lit≤ tt; output = refl; values = refl; empty = refl },
)

-- ---- a well-formed cache with all 164 changed
pub full_good : good_cache Full full_cache ≡ true
unfolding full_cache input_marks zeros good_cache every mark_good is_marked is_input permits allows offers kind_of find table source_of position below thread_element numbered
full_good = refl

abbrev agrees : ℕ → Bool
agrees e = cond (changed full_cache e) (is_input Full (thread_element e).id) (not (is_input Full (thread_element e).id))

all_agree : every agrees 170 0 ≡ true
unfolding full_cache input_marks zeros every is_marked is_input permits allows offers kind_of find table source_of position below thread_element numbered
all_agree = refl

pub full_changed : (e : ℕ) → e < 170 → changed full_cache e ≡ is_input Full (thread_element e).id
full_changed e h = same (changed full_cache e) (is_input Full (thread_element e).id) (every_at agrees 170 0 all_agree e (omega arith) (omega arith))
  where
    same : (a b : Bool) → cond a b (not b) ≡ true → a ≡ b
    same true true q = refl
    same true false q = absurd (no_bool q)
    same false true q = absurd (no_bool q)
    same false false q = refl

full_long : length full_cache.values ≡ 1820
unfolding full_cache
full_long = length_zeros 1820

pub full_need : (length (pending full_cache) ≡ 164) × (length (message (pending full_cache)) ≡ 2424)
full_need = all_changed full_cache full_long full_changed
