-- 02, L10: words of what is promised of a judged output.
use Rattle.std.specs.Prelude.{ℕ, ◌≡◌, ◌≢◌, Bool, true, ◌&&◌, List, [], ◌∷◌, ◌++◌, Ok}
use Rattle.elements.specs.declared.Offer.{Offer}
use Rattle.elements.specs.Table.{kind_of}
use Rattle.elements.specs.Later.{offers, is_thread}
use Rattle.elements.specs.Right.{on_entry}
use Rattle.gsb.specs.Join.{cut_of}
use Rattle.exits.specs.Exits.{exits}
use Rattle.judging.specs.Judging.{is_ours, our_value, elements_of, times}

abbrev pub AllOf : (ℕ × List ℕ → Type 0) → List (ℕ × List ℕ) → Type 0
AllOf P [] = Unit {0}
AllOf P (e ∷ es) = P e × AllOf P es

-- one of ours, with our value
abbrev pub IsOurs : List (ℕ × List ℕ) → ℕ × List ℕ → Type 0
IsOurs ours e = (is_ours ours e.0 ≡ true) × (e.1 ≡ our_value ours e.0)

-- "accept exactly if the buffer is walkable, holds each element of that exit once with our value, and nothing else but NOPs"
pub record HoldsOurs (ours : List (ℕ × List ℕ)) (b : List ℕ) : Type 0 where
  pub walkable : cut_of b ≡ Ok tt
  pub once : (id : ℕ) → is_ours ours id ≡ true → times id (elements_of b) ≡ 1
  pub only : AllOf (λ e. e.0 ≢ 0 → IsOurs ours e) (elements_of b)

-- "any reordering of its elements", and NOPs anywhere: each of es is taken out of fs once, and NOPs are left
unfoldable pub Reordered : List (ℕ × List ℕ) → List (ℕ × List ℕ) → Type 0
Reordered [] fs = AllOf (λ f. f.0 ≡ 0) fs
Reordered (e ∷ es) fs = (xs : List (ℕ × List ℕ)) × (ys : List (ℕ × List ℕ)) × (fs ≡ xs ++ (e ∷ ys)) × Reordered es (xs ++ ys)

-- 02, L7: "L10 uses the guest's list": a list has every element of every exit, so that no ID is of an exit and off the guest's list
abbrev pub all_listed : Offer → List ℕ → Bool
all_listed o [] = true
all_listed o (id ∷ ids) = (on_entry is_thread (kind_of id) && offers o id) && all_listed o ids

abbrev pub rows_listed : Offer → List (ℕ × List ℕ) → Bool
rows_listed o [] = true
rows_listed o (x ∷ xs) = all_listed o x.1 && rows_listed o xs

abbrev pub ExitsListed : Type 0
ExitsListed = (o : Offer) → rows_listed o exits ≡ true
