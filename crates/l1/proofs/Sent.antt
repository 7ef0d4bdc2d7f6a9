-- A list of elements that a run takes as its input. Assumes nothing.
use mathlib.Core.Path.{◌≡◌, ap, ◌∙◌}
use mathlib.Core.Bool.{true}
use mathlib.Core.List.{List, [], ◌∷◌, ◌++◌}
use Prim.Native.Nat.{ℕ, zero, suc, ◌≤◌, ◌<◌}
use native.Mathlib.Nat.{not-suc-le-zero, le_of_suc-le-suc}
use native.Mathlib.Omega.{arith}
use lib.ListN.{length}
use borrow.Author.Tests.{eq-eqb}
use Rattle.rules.specs.declared.Usage.TheVariants.{RunInput}
use Rattle.rules.specs.declared.Context.{Context}
use Rattle.gsb.specs.Walk.{first_bad}
use Rattle.gsb.specs.Message.{message, Begins, nth_id, nth_value, Wire}
use Rattle.gsb.proofs.RoundTrip.{wire_nil, wire_cons, listed_fits, input_good_lem}
use Rattle.exits.specs.Exits.{element_of}
use Rattle.elements.specs.declared.Offer.{Offer}
use Rattle.l1.specs.Marks.{allowed, is_input}
use Rattle.l1.specs.Cache.{Fit}
use Rattle.l1.proofs.Cells.{element_size, named_fits, allowed_as, input_named, input_allowed}
use Rattle.std.proofs.Common.{Ok}

pub fit_append : (o : Offer) (xs ys : List (ℕ × List ℕ)) → Fit o xs → Fit o ys → Fit o (xs ++ ys)
fit_append o [] ys f h = h
fit_append o (x ∷ xs) ys f h = (f.0, f.1, fit_append o xs ys f.2 h)

-- ---- a list that fits is a message that a run takes
pub fit_wire : (o : Offer) (es : List (ℕ × List ℕ)) → Fit o es → length es ≤ 170 → Wire es
fit_wire o [] f h = wire_nil
fit_wire o (e ∷ es) f h =
    let t = input_named o e.0 f.0 in
    let k = listed_fits e.0 t.entry e.1 t.listed (f.1 ∙ element_size e.0 t) in
    wire_cons e.0 e.1 es k.0 k.1 (omega arith) (fit_wire o es f.2 (omega arith))

pub fit_at : (o : Offer) (es : List (ℕ × List ℕ)) → Fit o es → (i : ℕ) → i < length es → (is_input o (nth_id es i) ≡ true) × (length (nth_value es i) ≡ (element_of (nth_id es i)).size)
fit_at o [] f i h = absurd (not-suc-le-zero h)
fit_at o (e ∷ es) f zero h = (f.0, f.1)
fit_at o (e ∷ es) f (suc i) h = fit_at o es f.2 i (le_of_suc-le-suc h)

pub fit_good : (k : Context) → k.usage ≡ RunInput → (es : List (ℕ × List ℕ)) (b : List ℕ) → Fit k.offer es → length es ≤ 170 → Begins b (message es) → first_bad k b ≡ Ok tt
fit_good k u es b f h s =
    input_good_lem es b (fit_wire k.offer es f h) s k
    (λ i c. allowed_as k (nth_id es i) ∙ ap (λ (x : _). allowed k.offer x (nth_id es i)) u ∙ input_allowed k.offer (nth_id es i) (fit_at k.offer es f i c).0)
    (λ i c. let q = fit_at k.offer es f i c in named_fits (nth_id es i) (input_named k.offer (nth_id es i) q.0) (length (nth_value es i)) ∙ eq-eqb _ _ q.1) u
