-- What a run's input holds: the newest writes in order of ID make a message that a run takes, in 2,424 bytes at most. Assumes nothing.
use mathlib.Core.Path.{◌≡◌, refl, sym, ap, ap₂, ◌∙◌}
use mathlib.Core.Bool.{Bool, cond}
use mathlib.Core.List.{List, [], ◌∷◌, ◌++◌}
use Prim.Native.Nat.{ℕ, zero, suc, ◌≤◌, ◌<◌}
use native.Mathlib.Omega.{arith}
use lib.ListN.{length, take, length-append}
use lib.Seq.{take-suc, take-length}
use Rattle.octets.specs.Bytes.{bytes_at, put}
use Rattle.octets.proofs.Bytes.{length_put}
use Rattle.rules.specs.declared.Usage.TheVariants.{RunInput}
use Rattle.rules.specs.declared.Context.{Context}
use Rattle.elements.specs.Table.{table, find, kind_of, source_of, position, below, numbered, number_of, thread_element}
use Rattle.rules.specs.Rules.{allows, permits}
use Rattle.gsb.specs.Walk.{count_of, first_bad}
use Rattle.gsb.specs.Message.{elements_bytes, message, Begins, Wire, elements_in}
use Rattle.gsb.proofs.Messages.{length_message}
use Rattle.gsb.proofs.RoundTrip.{begins_is, begins_first, message_count, message_id, message_value}
use Rattle.transfer.specs.Transfer.{applied}
use Rattle.transfer.proofs.Messages.{place_all, place_nil, place_cons, applied_message, thread_numbered}
use Rattle.exits.specs.Exits.{weigh, valued}
use Rattle.exits.proofs.Written.{length_valued}
use Rattle.elements.specs.declared.Offer.{Offer}
use Rattle.elements.specs.declared.Offer.TheVariants.{Full, Power9}
use Rattle.elements.specs.Later.{later, is_later, offers}
use Rattle.l1.specs.Marks.{Cache, changed, is_input}
use Rattle.l1.specs.Cache.{chosen, inputs, pending, Fit}
use Rattle.agreement.specs.Agree.{newest, in_order, Holds}
use Rattle.l1.proofs.Sent.{fit_append, fit_wire, fit_good}
use Rattle.l1.proofs.Cells.{input_named, all_weight}
use Rattle.l1.proofs.Pending.{weighed}
use Rattle.agreement.proofs.Writes.{Latest, none, some, latest, placed, place, back, back_newest, due_length}
use Rattle.std.proofs.Common.{Ok}

-- ---- the list fits as its writes do
fit_latest : (o : Offer) (id : ℕ) (es : List (ℕ × List ℕ)) → Latest o id es → Fit o es
fit_latest o id [] none = tt
fit_latest o id (e ∷ []) (some w a b) = (a, b, tt)
fit_latest o id (e ∷ (_ ∷ _)) l = elim l [ ]

pub due_fit : (o : Offer) (ws : List (ℕ × List ℕ)) → Fit o ws → (n : ℕ) → Fit o (in_order ws n)
unfolding in_order
due_fit o ws f zero = tt
due_fit o ws f (suc n) = fit_append o (in_order ws n) (newest ws (thread_element n).id) (due_fit o ws f n) (fit_latest o (thread_element n).id (newest ws (thread_element n).id) (latest o ws (thread_element n).id f))

latest_few : (o : Offer) (id : ℕ) (es : List (ℕ × List ℕ)) → Latest o id es → length es ≤ 1
latest_few o id [] none = omega arith
latest_few o id (e ∷ []) (some w a b) = omega arith
latest_few o id (e ∷ (_ ∷ _)) l = elim l [ ]

pub due_few : (o : Offer) (ws : List (ℕ × List ℕ)) → Fit o ws → (n : ℕ) → length (in_order ws n) ≤ n
unfolding in_order
due_few o ws f zero = omega arith
due_few o ws f (suc n) =
    omega (arith, length-append (in_order ws n) (newest ws (thread_element n).id), due_few o ws f n, latest_few o (thread_element n).id (newest ws (thread_element n).id) (latest o ws (thread_element n).id f))

-- ---- applied, it is the writes
place_all_lem : (o : Offer) (base : ℕ) (es : List (ℕ × List ℕ)) (s : List ℕ) → Fit o es → place_all base es s ≡ place base es s
unfolding place
place_all_lem o base [] s f = place_nil base s
place_all_lem o base (e ∷ es) s f =
    let t = input_named o e.0 f.0 in
    place_cons base e.0 e.1 es s ∙ ap (place_all base es) (thread_numbered e.0 t.entry t.listed t.scope base e.1 s) ∙ place_all_lem o base es (placed base e s) f.2

pub due_applied : (o : Offer) (base : ℕ) (s : List ℕ) (ws : List (ℕ × List ℕ)) → Fit o ws → (b : List ℕ) → Begins b (message (in_order ws 170)) → applied base b (count_of b) s ≡ back base s ws
due_applied o base s ws f b k =
    let q = due_fit o ws f 170 in
    applied_message base (in_order ws 170) b (fit_wire o (in_order ws 170) q (due_few o ws f 170)) k s ∙ place_all_lem o base (in_order ws 170) s q ∙ sym (back_newest o base s ws f)

pub due_good : (k : Context) → k.usage ≡ RunInput → (ws : List (ℕ × List ℕ)) → Fit k.offer ws → (b : List ℕ) → Begins b (message (in_order ws 170)) → first_bad k b ≡ Ok tt
due_good k u ws f b s = fit_good k u (in_order ws 170) b (due_fit k.offer ws f 170) (due_few k.offer ws f 170) s

-- ---- read back, it is those writes
elements_read : (es : List (ℕ × List ℕ)) (b : List ℕ) → Wire es → Begins b (message es) → (n : ℕ) → n ≤ length es → elements_in b n ≡ take n es
unfolding elements_in
elements_read es b w s zero h = refl
elements_read es b w s (suc n) h =
    let k : n < length es = omega arith in
    ap₂ (λ (xs : List (ℕ × List ℕ)) (x : ℕ × List ℕ). xs ++ (x ∷ [])) (elements_read es b w s n (omega arith))
    (ap₂ (λ (id : ℕ) (v : List ℕ). (id, v)) (message_id es b w s n k) (message_value es b w s n k))
    ∙ sym (take-suc es n (0, []) k)

pub due_held : (o : Offer) (lent b : List ℕ) (n : ℕ) (ws : List (ℕ × List ℕ)) → Fit o ws → b ≡ put lent 0 (message (in_order ws 170))
    → length (message (in_order ws 170)) ≤ n → n ≤ length lent → Holds lent n (in_order ws 170) b
due_held o lent b n ws f e h k =
    let w = fit_wire o (in_order ws 170) (due_fit o ws f 170) (due_few o ws f 170) in
    let z : length b ≡ length lent = ap length e ∙ length_put lent 0 (message (in_order ws 170)) in
    let s = begins_first b (message (in_order ws 170)) n (begins_is lent b (message (in_order ws 170)) e (omega arith)) h (omega arith) in
    record {
      bytes = e;
      fits = h;
      within = k;
      count = message_count (in_order ws 170) (bytes_at b 0 n) w s;
      elements = elements_read (in_order ws 170) (bytes_at b 0 n) w s (length (in_order ws 170)) (omega arith) ∙ take-length (in_order ws 170);
    }

-- ---- 01: "All 164 changed need 2,424 bytes."
-- what is due of writes that fit needs no more
pub due_need : (o : Offer) (ws : List (ℕ × List ℕ)) → Fit o ws → length (message (in_order ws 170)) ≤ 2424
due_need o ws f = omega (arith, length_message (in_order ws 170), due_length o ws f 170 (omega arith), all_weight)

-- the thread elements that a run input takes are 164, and 155 by POWER9's list
pub inputs_count : (length (inputs Full) ≡ 164) × (length (inputs Power9) ≡ 155)
unfolding chosen is_input permits allows offers is_later later kind_of find table source_of position below thread_element numbered
inputs_count = (refl, refl)

inputs_weigh : weigh (inputs Full) ≡ 2420
unfolding weigh chosen is_input permits allows offers kind_of find table source_of position below thread_element numbered number_of
inputs_weigh = refl

chosen_same : (p q : ℕ → Bool) (n : ℕ) → ((e : ℕ) → e < n → p e ≡ q e) → chosen p n ≡ chosen q n
unfolding chosen
chosen_same p q zero h = refl
chosen_same p q (suc n) h =
    ap₂ (λ (ids : List ℕ) (t : Bool). ids ++ cond t ((thread_element n).id ∷ []) []) (chosen_same p q n (λ e k. h e (omega arith))) (h n (omega arith))

-- with all of them changed, and no other, a cache sends 164 elements in 2,424 bytes
pub all_changed : (c : Cache) → length c.values ≡ 1820 → ((e : ℕ) → e < 170 → changed c e ≡ is_input Full (thread_element e).id)
    → (length (pending c) ≡ 164) × (length (message (pending c)) ≡ 2424)
all_changed c l h =
    let q : pending c ≡ valued 0 c.values (inputs Full) = ap (valued 0 c.values) (chosen_same (changed c) (λ e. is_input Full (thread_element e).id) 170 h) in
    let n : length (elements_bytes (valued 0 c.values (inputs Full))) ≡ 2420 = weighed c.values (λ e. is_input Full (thread_element e).id) 170 l (omega arith) ∙ inputs_weigh in
    (ap length q ∙ length_valued 0 c.values (inputs Full) ∙ inputs_count.0, ap (λ (es : List (ℕ × List ℕ)). length (message es)) q ∙ omega (arith, length_message (valued 0 c.values (inputs Full)), n))
