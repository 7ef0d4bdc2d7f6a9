-- 02, L8: "Prove that two set-state calls without bit 1 on one target, the second straight after the first and both accepted, leave the store that
-- one call with the joined elements leaves, and that this joining is associative, as long as the joined buffer has at most 65,536 bytes. Prove also
-- that if they share no ID but the NOP, either order gives the same store." The theorems are `two_sets_one`, `join_associative` and `either_order`.
use Rattle.std.specs.Prelude.{ℕ, ◌≤◌, ◌<◌, ◌≡◌, ◌⊎◌, true, false, List, [], ◌∷◌, ◌++◌, length}
use Rattle.octets.specs.Bytes.{bytes_at, be, digits, zeros}
use Rattle.answer.specs.declared.Call.{Call as Name}
use Rattle.answer.specs.declared.Registers.{Registers}
use Rattle.answer.specs.Answer.{told}
use Rattle.gsb.specs.Walk.{count_of, id_at, offset_at}
use Rattle.gsb.specs.Join.{joined, Joining, join_into}
use Rattle.store.specs.declared.Layout.{Layout}
use Rattle.store.specs.Layout.{small}
use Rattle.store.specs.Header.{offered}
use Rattle.store.specs.Store.{fresh}
use Rattle.admission.specs.Refusals.{has_bit0, hands_over}
use Rattle.l0.specs.Calls.{SetCapabilities, SetState, outcome, after}
use Rattle.promises.specs.History.{is_accepted}
use Rattle.promises.specs.Edges.{element, buffer_of, one, new_guest}

-- ---- the joining
-- 01, "Answers": "Each answer is R3, R4, R5"
unfoldable pub join_told : List ℕ → List ℕ → List ℕ → Registers
join_told a b r = told Name.Join (join_into a b r).answer.fault (join_into a b r).answer.value

-- "written to the result's first bytes, R4 its length"
abbrev pub written : Joining → List ℕ
written j = bytes_at j.result 0 j.answer.value

-- as bytes; and of the operation, where what it wrote is joined again, whatever is lent for the end
pub record Associative (a b c : List ℕ) : Type 0 where
  pub bytes : joined (joined a b) c ≡ joined a (joined b c)
  pub operation : (p q r : List ℕ) → length (joined a b) ≤ length p → length (joined b c) ≤ length q
      → join_into (written (join_into a b p)) c r ≡ join_into a (written (join_into b c q)) r

-- ---- two sets
-- "on one target": the guest, and of a vCPU its id; 01, "Answers": "guest-wide; the vCPU id is then ignored"
abbrev pub OneTarget : ℕ → ℕ → ℕ → Type 0
OneTarget flags v w = (has_bit0 flags ≡ true) ⊎ (v ≡ w)

-- "two set-state calls without bit 1 on one target, the second straight after the first and both accepted". An accepted call has no flag but bit 0
-- or bit 1, so that those without bit 1 on one target have the same flags.
pub record TwoSets (l : Layout) (s : List ℕ) (flags guest v w : ℕ) (a b : List ℕ) : Type 0 where
  pub plain : hands_over flags ≡ false
  pub target : OneTarget flags v w
  pub first : is_accepted l s (SetState flags guest v a) ≡ true
  pub second : is_accepted l (outcome l s (SetState flags guest v a)).store (SetState flags guest w b) ≡ true

-- the store that they leave
abbrev pub after_both : Layout → List ℕ → ℕ → ℕ → ℕ → ℕ → List ℕ → List ℕ → List ℕ
after_both l s flags guest v w a b = after l s (SetState flags guest v a ∷ SetState flags guest w b ∷ [])

-- "one call with the joined elements": it is accepted, and leaves the store t
pub record OneSet (l : Layout) (s : List ℕ) (flags guest v : ℕ) (j t : List ℕ) : Type 0 where
  pub accepted : is_accepted l s (SetState flags guest v j) ≡ true
  pub store : (outcome l s (SetState flags guest v j)).store ≡ t

-- "if they share no ID but the NOP"
abbrev pub ShareNoId : List ℕ → List ℕ → Type 0
ShareNoId a b = (i j : ℕ) → i < count_of a → j < count_of b → id_at a (offset_at a i) ≡ id_at b (offset_at b j) → id_at a (offset_at a i) ≡ 0

-- ---- the request's numbers, as `edges_of` has others: what the rules give, and the number that it says
-- CR is 1, and a byte stands behind it
unfoldable pub one_and_byte : List ℕ
one_and_byte = one 0x2000 4 1 ++ (9 ∷ [])

-- the second of two counted elements is not there; the first of one lacks a byte
unfoldable pub counts_two : List ℕ
counts_two = buffer_of 2 (element 0x2000 4 1)

unfoldable pub lacks_byte : List ℕ
lacks_byte = buffer_of 1 (digits 2 0x2000 ++ digits 2 4 ++ digits 3 0)

-- a NOP of n bytes
unfoldable pub long_nop : ℕ → List ℕ
long_nop n = buffer_of 1 (digits 2 0x0000 ++ digits 2 n ++ zeros n)

unfoldable pub join_edges : List (ℕ × ℕ)
join_edges =
    -- "written to the result's first bytes, R4 its length": without the byte behind the first's element
    ((join_told one_and_byte (long_nop 1) (zeros 17)).r3, 0) ∷ ((join_told one_and_byte (long_nop 1) (zeros 17)).r4, 17) ∷ (be (join_into one_and_byte (long_nop 1) (zeros 17)).result 0 4, 2)
    -- "12 with R4 1 if the lent result is too short"
    ∷ ((join_told one_and_byte (long_nop 1) (zeros 16)).r3, 12) ∷ ((join_told one_and_byte (long_nop 1) (zeros 16)).r4, 1)
    -- "7 for a cut element of the first, then the second, with its index and offset"
    ∷ ((join_told counts_two lacks_byte []).r3, 7) ∷ ((join_told counts_two lacks_byte []).r4, 1) ∷ ((join_told counts_two lacks_byte []).r5, 12)
    ∷ ((join_told one_and_byte lacks_byte []).r3, 7) ∷ ((join_told one_and_byte lacks_byte []).r4, 0) ∷ ((join_told one_and_byte lacks_byte []).r5, 4)
    -- "5 for either buffer", before 7
    ∷ ((join_told (digits 3 0) lacks_byte []).r3, 5) ∷ ((join_told lacks_byte (digits 3 0) []).r3, 5)
    -- "5 for a joined length over 65,536", before 12
    ∷ ((join_told (long_nop 32762) (long_nop 32762) []).r3, 12) ∷ ((join_told (long_nop 32762) (long_nop 32763) []).r3, 5)
    ∷ []

-- guest 1, with both capabilities agreed: `sets_met` makes it a POWER9 guest, and then sets its TB offset
unfoldable pub agreed_guest : List ℕ
agreed_guest = after small (fresh small) (SetCapabilities 0 offered ∷ new_guest ∷ [])
