-- THEOREMS `same_on_both`: of any list of calls, up to the first create that the first store answers with 9, the answers and the written
-- buffers are the same on two stores that mirror each other; `mirror_kept`: and then they still do; `same_converted`: so they are on a well-formed
-- store and its conversion, and (`same_on_large`) on a small store and the large one that the call `convert` leaves. `converted_mirrors` and `converted_else` are in Both.Converted. Assumes nothing.
pub mod Windows
pub mod Places
pub mod Searches
pub mod Values
pub mod Stores
pub mod Calls
pub mod Formed
pub mod Converted
use mathlib.Core.Path.{◌≡◌, refl, sym, ap, ap₂, ◌∙◌}
use mathlib.Core.Logic.{◌≢◌}
use mathlib.Core.Bool.{Bool, true, false, ◌&&◌, cond}
use mathlib.Core.List.{List, [], ◌∷◌}
use Prim.Native.Nat.{ℕ}
use lib.ListN.{length}
use borrow.Author.Tests.{eq-eqb, eqb-false}
use Rattle.octets.specs.Bytes.{bytes_at, put, be, zeros}
use Rattle.octets.specs.Bits.{bit, bits}
use Rattle.answer.specs.declared.Fault.{Fault}
use Rattle.answer.specs.declared.Fault.TheVariants.{Room}
use Rattle.answer.specs.declared.Answer.{Answer}
use Rattle.answer.specs.Answer.{told}
use Rattle.store.specs.declared.Layout.{Layout}
use Rattle.store.specs.Layout.{Sound, small, large}
use Rattle.store.specs.Search.{every}
use Rattle.store.specs.Header.{header, capabilities_of, live, word, is_used, guest_of, is_taken, lacks, alone, slot_good, head_good, words_good}
use Rattle.store.specs.Store.{well_formed, fresh}
use Rattle.store.specs.Conversion.{Within, recoded, converted}
use Rattle.store.proofs.Sizes.{sound_small, sound_large, small_within}
use Rattle.admission.specs.Refusals.{accept, decide}
use Rattle.l0.specs.Calls.{Call, outcome, after, convert}
use Rattle.promises.specs.History.{name_of, registers}
use Rattle.promises.specs.Mirror.{Mirrors}
use Rattle.promises.specs.Both.{Reply, reply_to, replies, is_create, is_full, before_full}
use Rattle.promises.proofs.Both.Calls.{Agree, call_both}
use Rattle.promises.proofs.Both.Converted.{converted_mirrors}

rest_false : (a b : Bool) → a ≡ true → (a && b) ≡ false → b ≡ false
rest_false a b k e = sym (ap (λ (x : Bool). x && b) k) ∙ e

-- a create that is not answered with 9 was not refused for want of room
not_room : (l : Layout) (s : List ℕ) (c : Call) → is_full l s c ≡ false → is_create c ≡ true → (outcome l s c).answer.fault ≢ Room
unfolding is_full registers
not_room l s c e k r = eqb-false _ _ (rest_false (is_create c) _ k e) (ap (λ (f : Fault). (told (name_of c) f (outcome l s c).answer.value).r3) r)

module _ (l m : Layout) (so : Sound l) (so' : Sound m) (within : Within l m) where
  one_reply : (s t : List ℕ) (c : Call) → Agree l m (outcome l s c) (outcome m t c) → reply_to m t c ≡ reply_to l s c
  unfolding reply_to registers
  one_reply s t c a = ap₂ (λ (x : Answer) (b : List ℕ). record { registers = told (name_of c) x.fault x.value; buffer = b }) a.answer a.buffer

  -- calls of which no create is answered with 9
  record Held (s t : List ℕ) (cs : List Call) : Type 0 where
    same : replies m t cs ≡ replies l s cs
    kept : Mirrors l m (after l s cs) (after m t cs)

  held : (cs : List Call) (s t : List ℕ) → Mirrors l m s t → Held s t (before_full l s cs)
  unfolding replies before_full after
  held [] s t mirror = record { same = refl; kept = mirror }
  held (c ∷ cs) s t mirror = go (is_full l s c) refl (held cs)
    where
      go : (b : Bool) → is_full l s c ≡ b → ((s t : List ℕ) → Mirrors l m s t → Held s t (before_full l s cs)) → Held s t (cond b [] (c ∷ before_full l (outcome l s c).store cs))
      go true e ih = record { same = refl; kept = mirror }
      go false e ih =
          let a = call_both l m so so' within s t mirror c (not_room l s c e) in
          let r = ih (outcome l s c).store (outcome m t c).store a.stores in
          record { same = ap₂ (λ (x : Reply) (xs : List Reply). x ∷ xs) (one_reply s t c a) r.same; kept = r.kept }

  pub same_on_both : (s t : List ℕ) → Mirrors l m s t → (cs : List Call) → replies m t (before_full l s cs) ≡ replies l s (before_full l s cs)
  same_on_both s t mirror cs = (held cs s t mirror).same

  pub mirror_kept : (s t : List ℕ) → Mirrors l m s t → (cs : List Call) → Mirrors l m (after l s (before_full l s cs)) (after m t (before_full l s cs))
  mirror_kept s t mirror cs = (held cs s t mirror).kept

  -- 02, L6: "A conversion writes a small store as a large one .., after which any list of the eight calls and the clock gives the same answers and
  -- buffers on both, up to the first create that the small one answers with 9."
  pub same_converted : (s : List ℕ) → well_formed l s ≡ true → (cs : List Call) → replies m (converted l m s) (before_full l s cs) ≡ replies l s (before_full l s cs)
  same_converted s good cs = same_on_both s (converted l m s) (converted_mirrors l m so so' within s good) cs

-- of the two sizes: a well-formed small store and its conversion
pub same_on_large : (s : List ℕ) → well_formed small s ≡ true → (cs : List Call) → replies large (converted small large s) (before_full small s cs) ≡ replies small s (before_full small s cs)
same_on_large = same_converted small large sound_small sound_large small_within

-- what an accepted conversion leaves is that store, whatever the target held
pub convert_leaves : (s t : List ℕ) → well_formed small s ≡ true → length t ≡ large.size → convert s t ≡ accept 0 (converted small large s)
unfolding convert decide
convert_leaves s t good long = simp (good, eq-eqb _ _ long)

-- the hypotheses can be met: guests 1 to 3 live, vCPU 2047 of guest 3 in slot 0 and taken, vCPU 0 of guest 1 in slot 1. Its words in the large
-- store have 18 bits: (64 + 3) * 2048 + 2047 and (64 + 1) * 2048.
abbrev sample : List ℕ
sample = put (put (fresh small) 8 (0xE0 ∷ 0 ∷ 0x9F ∷ 0xFF ∷ 0x88 ∷ 0x00 ∷ [])) 42 (0x80 ∷ [])

pub both_met : (well_formed small sample ≡ true) × (recoded small large 0x9FFF ≡ 0x21FFF) × (recoded small large 0x8800 ≡ 0x20800)
unfolding well_formed fresh zeros put header bytes_at head_good capabilities_of be words_good every slot_good is_used guest_of is_taken alone lacks live word bits bit recoded
both_met = (refl, refl, refl)
