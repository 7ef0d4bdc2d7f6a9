-- The joined buffer applied is the first applied, then the second. Assumes nothing.
use mathlib.Core.Path.{◌≡◌, sym, ap, ◌∙◌}
use mathlib.Core.List.{List}
use Prim.Native.Nat.{ℕ, zero, suc}
use Rattle.elements.specs.Table.{kind_of}
use Rattle.gsb.specs.Walk.{count_of, id_at, offset_at}
use Rattle.gsb.specs.Message.{elements_in}
use Rattle.gsb.specs.Join.{joined, Joinable}
use Rattle.gsb.proofs.Shifted.{elements_none, elements_more}
use Rattle.gsb.proofs.Joined.{joined_elements}
use Rattle.transfer.specs.Transfer.{value_at, put_as, applied}
use Rattle.transfer.proofs.Moving.{apply_start, apply_more}
use Rattle.transfer.proofs.Messages.{place_all, place_nil, place_append, place_snoc}

-- applying a buffer is placing the list of its elements, of any buffer whatever
applied_elements : (base : ℕ) (b s : List ℕ) (n : ℕ) → applied base b n s ≡ place_all base (elements_in b n) s
applied_elements base b s zero = sym (apply_start base b s) ∙ sym (place_nil base s) ∙ ap (λ (x : List (ℕ × List ℕ)). place_all base x s) (sym (elements_none b))
applied_elements base b s (suc n) =
    apply_more base b s n
    ∙ ap (put_as (kind_of (id_at b (offset_at b n))) base (value_at b (offset_at b n))) (applied_elements base b s n)
    ∙ sym (place_snoc base (elements_in b n) (id_at b (offset_at b n)) (value_at b (offset_at b n)) s)
    ∙ ap (λ (x : List (ℕ × List ℕ)). place_all base x s) (sym (elements_more b n))

pub applied_joined : (base : ℕ) (a b s : List ℕ) → Joinable a → Joinable b
    → applied base (joined a b) (count_of (joined a b)) s ≡ applied base b (count_of b) (applied base a (count_of a) s)
applied_joined base a b s ja jb =
    applied_elements base (joined a b) s (count_of (joined a b))
    ∙ ap (λ (x : List (ℕ × List ℕ)). place_all base x s) (joined_elements a b ja jb)
    ∙ place_append base (elements_in a (count_of a)) (elements_in b (count_of b)) s
    ∙ ap (place_all base (elements_in b (count_of b))) (sym (applied_elements base a s (count_of a)))
    ∙ sym (applied_elements base b (applied base a (count_of a) s) (count_of b))
