-- 02, L7, "POWER9 guests have fewer registers": the second list, what POWER9 lacks of the first.
use Rattle.std.specs.Prelude.{ℕ, zero, suc, ◌+◌, ◌-◌, ◌≡◌, Bool, true, false, not, ◌&&◌, ◌||◌, cond, List, [], ◌∷◌, leb, eqb}
use Rattle.elements.specs.declared.Scope.TheVariants.{Thread}
use Rattle.elements.specs.declared.Entry.{Entry}
use Rattle.elements.specs.declared.Offer.{Offer}
use Rattle.elements.specs.declared.Offer.TheVariants.{Full, Power9}
use Rattle.elements.specs.Table.{same_scope, kind_of, thread_element}
use Rattle.elements.specs.Right.{all_from, on_entry}

-- "A guest whose logical PVR is 0x0F000005 shall not be offered what came later: 0x1031, 0x103E, 0x1041, 0x1042, 0x104E to 0x1051 and
-- 0x2006." First ID, last ID.
unfoldable pub later : List (ℕ × ℕ)
later =
    (0x1031, 0x1031)
    ∷ (0x103E, 0x103E)
    ∷ (0x1041, 0x1041)
    ∷ (0x1042, 0x1042)
    ∷ (0x104E, 0x1051)
    ∷ (0x2006, 0x2006)
    ∷ []

abbrev pub is_in : List (ℕ × ℕ) → ℕ → Bool
is_in [] id = false
is_in (r ∷ rs) id = (leb r.0 id && leb id r.1) || is_in rs id

unfoldable pub is_later : ℕ → Bool
is_later id = is_in later id

-- "With any other PVR the list of 01 holds; both lists are kept": which list a guest has, by its logical PVR
unfoldable pub offer_of : ℕ → Offer
offer_of pvr = cond (eqb pvr 0x0F000005) Power9 Full

-- whether a list has an ID that the table lists
unfoldable pub offers : Offer → ℕ → Bool
offers Full id = true
offers Power9 id = not (is_later id)

-- ---- what is promised of it: the theorem is `later_right`
-- how many IDs the ranges have, and a test of each
abbrev pub many_in : List (ℕ × ℕ) → ℕ
many_in [] = 0
many_in (r ∷ rs) = suc r.1 - r.0 + many_in rs

abbrev pub every_in : (ℕ → Bool) → List (ℕ × ℕ) → Bool
every_in test [] = true
every_in test (r ∷ rs) = all_from test r.0 (suc r.1 - r.0) && every_in test rs

abbrev pub is_thread : Entry → Bool
is_thread x = same_scope Thread x.scope

-- how many of the thread elements before number n have an ID with p
abbrev pub threads_with : (ℕ → Bool) → ℕ → ℕ
threads_with p zero = 0
threads_with p (suc e) = threads_with p e + cond (p (thread_element e).id) 1 0

pub record LaterRight : Type 0 where
  pub many : many_in later ≡ 9
  pub listed : every_in (λ (id : ℕ). on_entry is_thread (kind_of id)) later ≡ true
  -- the 170 are these and the 161 that POWER9 has
  pub lacked : threads_with is_later 170 ≡ 9
  pub left : threads_with (λ (id : ℕ). not (is_later id)) 170 ≡ 161
