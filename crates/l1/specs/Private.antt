-- Names that only the contracts of private functions use.
use Rattle.std.specs.Prelude.{ℕ, ◌+◌, ◌-◌, ◌*◌, ◌/◌, ◌%◌, ◌^◌, ◌≤◌, ◌<◌, ◌≡◌, ◌⊎◌, Bool, true, false, not, cond, ◌&&◌, List, [], ◌∷◌, eqb, ltb, length, get_or, Option, Some, None, Result, Ok, Err}
use Rattle.std.specs.Int.Count.{count_leading_zeros}
use Rattle.octets.specs.Bytes.{bytes_at, put}
use Rattle.answer.specs.declared.Bad.TheVariants.{Id, Size}
use Rattle.answer.specs.declared.Place.{Place}
use Rattle.answer.specs.declared.Fault.{Fault}
use Rattle.answer.specs.declared.Fault.TheVariants.{Length, Element, Cache as CacheBad}
use Rattle.answer.specs.Refusals.{first_of}
use Rattle.elements.specs.declared.Offer.{Offer}
use Rattle.elements.specs.declared.Offer.TheVariants.{Full, Power9}
use Rattle.elements.specs.declared.Cell.{Cell}
use Rattle.elements.specs.Table.{kind_of, number_of, thread_element}
use Rattle.elements.specs.Later.{offers}
use Rattle.elements.specs.Cells.{cell_of}
use Rattle.gsb.specs.Walk.{count_of, id_at, size_at, next_at, offset_at}
use Rattle.gsb.specs.Message.{message}
use Rattle.store.specs.Layout.{layout_of, slot_bytes}
use Rattle.store.specs.Search.{every, first, tally}
use Rattle.transfer.specs.Transfer.{put_as, AllReady}
use Rattle.exits.specs.Exits.{known, element_of}
use Rattle.admission.specs.Refusals.{success}
use Rattle.admission.specs.Target.{base_of}
use Rattle.state.specs.State.{got_element}
use Rattle.run.specs.declared.RunTarget.{RunTarget}
use Rattle.run.specs.Private.{target_at}
use Rattle.run.specs.Run.{ran}
use Rattle.l1.specs.declared.Mark.{Mark}
use Rattle.l1.specs.Marks.{Cache, with_mark, is_marked, valid, mark_good, good_cache}
use Rattle.l1.specs.Cache.{place_zero, value_tests, ReadOutcome, fetched, pending, RunOutcome, ran_with, cached_tests}

-- ---- the three words of the marks whose element a list permits in a run input
unfoldable pub input_words : Offer → List ℕ
input_words Full = 0x3FFFFFFFFFFFFFFF ∷ 0xFFFFFFFFFFFFFFFF ∷ 0xFFFFFFFFFC000000 ∷ []
input_words Power9 = 0x3FFFFFFFFFFFF7FF ∷ 0xB3FF87FBFFFFFFFF ∷ 0xFFFFFFFFFC000000 ∷ []

-- the marks of a cache whose values and marks have their lengths
abbrev pub good_marks : Offer → List ℕ → Bool
good_marks o m = every (mark_good o (record { values = []; marks = m })) 192 0

-- ---- the cell of the element that a write or a read names
-- of an ID that the operation takes
unfoldable pub cell_if : Bool → ℕ → Option Cell
cell_if good id = cond good (Some (cell_of id)) None

-- a thread element's size
abbrev pub Sized : ℕ → Type 0
Sized n = (n ≡ 4) ⊎ ((n ≡ 8) ⊎ (n ≡ 16))

-- a cell of the cache
pub record Within (x : Cell) : Type 0 where
  pub number : x.number < 170
  pub inside : x.position + x.size ≤ 1820
  pub sized : Sized x.size

unfoldable pub kept_at : Cache → Cell → List ℕ → Cache
kept_at c x v = record { values = put c.values x.position v; marks = with_mark c.marks x.number }

unfoldable pub changed_at : Cache → Cell → List ℕ → Cache
changed_at c x v = record { values = put c.values x.position v; marks = with_mark (with_mark c.marks x.number) (192 + x.number) }

-- ---- 15, 5, 6 and 7 of a write or a read
abbrev pub element_tests : Offer → Cache → Bool → ℕ → List ℕ → List (Bool × Fault)
element_tests o c good id v = (not (good_cache o c), CacheBad) ∷ value_tests good id v

-- the same by the cell of the ID, which it gives
abbrev pub cell_good : Option Cell → List ℕ → Result Cell Fault
cell_good None v = Err (Element Id place_zero)
cell_good (Some x) v = cond (eqb (length v) x.size) (Ok x) (Err (Element Size place_zero))

unfoldable pub element_good : Offer → List ℕ → Option Cell → List ℕ → Result Cell Fault
element_good o m x v = first_of Err ((not (good_marks o m), CacheBad) ∷ (ltb 65528 (length v), Length) ∷ []) (cell_good x v)

-- a read past its tests
unfoldable pub read_value : List ℕ → ℕ → ℕ → Cache → ℕ → List ℕ → ReadOutcome
read_value s guest vcpu c id v =
    cond (valid c (number_of id))
    (record { answer = success 0; cache = c; value = bytes_at c.values (element_of id).position (element_of id).size })
    (fetched c id (length v) (got_element (layout_of s) s guest vcpu id v))

-- ---- the walk from mark to mark
-- the changed marks, of the words alone
abbrev pub is_changed : List ℕ → ℕ → Bool
is_changed m e = is_marked m (192 + e)

-- the marks behind mark i in its word
abbrev pub behind : List ℕ → ℕ → ℕ
behind m i = get_or m (i / 64) 0 % 2 ^ (63 - i % 64)

-- the first mark of what is left of the word that starts with mark `start`
abbrev pub top_mark : ℕ → ℕ → Mark
top_mark start left = record { at = start + count_leading_zeros 64 left; left = left % 2 ^ (63 - count_leading_zeros 64 left) }

-- where a mark is, 384 where there is none, and the marks behind it
abbrev pub at_of : Option Mark → ℕ
at_of None = 384
at_of (Some x) = x.at

abbrev pub left_of : Option Mark → ℕ
left_of None = 0
left_of (Some x) = x.left

-- the first mark at or after i
pub record MarkFrom (m : List ℕ) (i : ℕ) (x : Option Mark) : Type 0 where
  pub at : at_of x ≡ first (is_marked m) (384 - i) i
  pub left : left_of x ≡ behind m (at_of x)
  pub above : i ≤ at_of x
  pub within : at_of x ≤ 384
  pub there : (y : Mark) → x ≡ Some y → y.at < 384

-- ---- the bytes of a word's elements, by their sizes
abbrev pub has_size : ℕ → ℕ → Bool
has_size n e = ltb e 170 && eqb (thread_element e).size n

-- how many of the 64 elements of word k have p and n bytes
abbrev pub sized_in : (ℕ → Bool) → ℕ → ℕ → ℕ
sized_in p n k = tally (λ e. p (64 * k + e) && has_size n (64 * k + e)) 64

abbrev pub word_bytes : (ℕ → Bool) → ℕ → ℕ
word_bytes p k = 8 * sized_in p 4 k + 12 * sized_in p 8 k + 20 * sized_in p 16 k

-- ---- a run
-- the place of the first of the elements with these IDs that a list lacks; they start with index i, at offset `at`
unfoldable pub lacked_from : Offer → List ℕ → ℕ → ℕ → Place
lacked_from o [] i at = record { index = i; offset = at }
lacked_from o (id ∷ ids) i at = cond (offers o id) (lacked_from o ids (i + 1) (at + 4 + (element_of id).size)) (record { index = i; offset = at })

-- all its tests behind 15, and the slot
unfoldable pub cached_target : List ℕ → Cache → ℕ → ℕ → ℕ → ℕ → ℕ → List ℕ → ℕ → Result RunTarget Fault
cached_target s c flags guest vcpu inputLength output_length effect exit =
    first_of Err (cached_tests (layout_of s) s c flags guest vcpu inputLength output_length effect exit)
    (Ok (target_at s (base_of (layout_of s) s false guest vcpu)))

-- what they say of it: the vCPU's values start at base, and `size` bytes of the input are registered
pub record Sendable (s : List ℕ) (base size : ℕ) (c : Cache) (input output effect : List ℕ) (exit : ℕ) : Type 0 where
  pub good : good_cache Full c ≡ true
  pub fits : length (message (pending c)) ≤ size
  pub lent : size ≤ length input
  pub ready : AllReady base effect (length s)
  pub known : known exit ≡ true
  pub room : base + slot_bytes ≤ length s
  pub out : 124 ≤ length output

unfoldable pub sent : List ℕ → ℕ → ℕ → Cache → List ℕ → List ℕ → List ℕ → ℕ → RunOutcome
sent s base size c input output effect exit =
    ran_with c (put input 0 (message (pending c))) (ran base s (bytes_at (put input 0 (message (pending c))) 0 size) output effect exit)

-- an element of an output, which the cache can keep
pub record Keeps (b : List ℕ) (at : ℕ) : Type 0 where
  pub inside : next_at b at ≤ length b
  pub cell : Within (cell_of (id_at b at))
  pub size : size_at b at ≡ (cell_of (id_at b at)).size
  pub puts : (v s : List ℕ) → put_as (kind_of (id_at b at)) 0 v s ≡ put s (cell_of (id_at b at)).position v

pub record AllKeeps (b : List ℕ) : Type 0 where
  pub long : 4 ≤ length b
  pub each : (i : ℕ) → i < count_of b → Keeps b (offset_at b i)
