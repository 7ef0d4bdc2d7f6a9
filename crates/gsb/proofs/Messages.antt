-- The laws of a message that is written: one element, and an element behind those that are there. Nothing else opens `element_bytes`
-- and `message`. Assumes nothing.
use mathlib.Core.Path.{◌≡◌, refl, sym, ap, ap₂, ◌∙◌}
use mathlib.Core.List.{List, [], ◌∷◌, ◌++◌, append_assoc, append-nil}
use Prim.Native.Nat.{ℕ, ◌+◌, ◌≤◌}
use native.Mathlib.Omega.{arith}
use lib.ListN.{length, length-append}
use Rattle.octets.specs.Bytes.{bytes_at, put, digits}
use Rattle.octets.proofs.Bytes.{length_bytes_at, put_nil, put_append}
use Rattle.octets.proofs.Numbers.{length_digits}
use Rattle.gsb.specs.Message.{element_bytes, elements_bytes, message}

pub length_element : (id : ℕ) (v : List ℕ) → length (element_bytes id v) ≡ 4 + length v
unfolding element_bytes
length_element id v =
    length-append (digits 2 id) (digits 2 (length v) ++ v) ∙ ap₂ (λ (a b : ℕ). a + b) (length_digits 2 id) (length-append (digits 2 (length v)) v ∙ ap (λ (a : ℕ). a + length v) (length_digits 2 (length v)))
    ∙ (omega arith)

-- what they are made of
pub element_parts : (id : ℕ) (v : List ℕ) → element_bytes id v ≡ digits 2 id ++ (digits 2 (length v) ++ v)
unfolding element_bytes
element_parts id v = refl

pub elements_parts : (es : List (ℕ × List ℕ)) (id : ℕ) (v : List ℕ) → elements_bytes ((id, v) ∷ es) ≡ element_bytes id v ++ elements_bytes es
unfolding elements_bytes
elements_parts es id v = refl

pub elements_nil : elements_bytes [] ≡ []
unfolding elements_bytes
elements_nil = refl

pub message_parts : (es : List (ℕ × List ℕ)) → message es ≡ digits 4 (length es) ++ elements_bytes es
unfolding message
message_parts es = refl

-- what `put_element` writes, in its three writes
pub element_put : (s a b c src : List ℕ) (at id from size : ℕ) → a ≡ put s at (digits 2 id) → b ≡ put a (at + 2) (digits 2 size)
    → c ≡ put b (at + 4) (bytes_at src from size) → from + size ≤ length src → c ≡ put s at (element_bytes id (bytes_at src from size))
unfolding element_bytes
element_put s a b c src at id from size p q r h =
    let n : length (bytes_at src from size) ≡ size = length_bytes_at src from size h in
    let two : at + length (digits 2 id) ≡ at + 2 = ap (λ (x : ℕ). at + x) (length_digits 2 id) in
    let four : at + 2 + length (digits 2 size) ≡ at + 4 = ap (λ (x : ℕ). at + 2 + x) (length_digits 2 size) ∙ omega arith in
    r ∙ ap (λ (x : List ℕ). put x (at + 4) (bytes_at src from size)) (q ∙ ap (λ (x : List ℕ). put x (at + 2) (digits 2 size)) p)
    ∙ ap (λ (x : ℕ). put (put (put s at (digits 2 id)) (at + 2) (digits 2 size)) x (bytes_at src from size)) (sym four)
    ∙ sym (put_append (put s at (digits 2 id)) (at + 2) (digits 2 size) (bytes_at src from size))
    ∙ ap (λ (x : ℕ). put (put s at (digits 2 id)) x (digits 2 size ++ bytes_at src from size)) (sym two)
    ∙ sym (put_append s at (digits 2 id) (digits 2 size ++ bytes_at src from size))
    ∙ ap (λ (x : ℕ). put s at (digits 2 id ++ (digits 2 x ++ bytes_at src from size))) (sym n)

-- ---- an element more
pub elements_append : (es fs : List (ℕ × List ℕ)) → elements_bytes (es ++ fs) ≡ elements_bytes es ++ elements_bytes fs
unfolding elements_bytes
elements_append [] fs = refl
elements_append (e ∷ es) fs =
    ap (λ (x : List ℕ). element_bytes e.0 e.1 ++ x) (elements_append es fs) ∙ sym (append_assoc (element_bytes e.0 e.1) (elements_bytes es) (elements_bytes fs))

elements_one : (id : ℕ) (v : List ℕ) → elements_bytes ((id, v) ∷ []) ≡ element_bytes id v
unfolding elements_bytes
elements_one id v = append-nil (element_bytes id v)

pub elements_snoc : (es : List (ℕ × List ℕ)) (id : ℕ) (v : List ℕ) → elements_bytes (es ++ ((id, v) ∷ [])) ≡ elements_bytes es ++ element_bytes id v
elements_snoc es id v = elements_append es ((id, v) ∷ []) ∙ ap (λ (x : List ℕ). elements_bytes es ++ x) (elements_one id v)

pub length_more : (es : List (ℕ × List ℕ)) (id : ℕ) (v : List ℕ) → length (elements_bytes (es ++ ((id, v) ∷ []))) ≡ length (elements_bytes es) + 4 + length v
length_more es id v =
    ap length (elements_snoc es id v) ∙ length-append (elements_bytes es) (element_bytes id v) ∙ ap (λ (n : ℕ). length (elements_bytes es) + n) (length_element id v) ∙ omega arith

-- ---- a message as it grows: elements from p on, then with the count before them
pub elements_more : (b : List ℕ) (p : ℕ) (es : List (ℕ × List ℕ)) (x y : List ℕ) (at id : ℕ) (v : List ℕ) → x ≡ put b p (elements_bytes es) → at ≡ p + length (elements_bytes es)
    → y ≡ put x at (element_bytes id v) → y ≡ put b p (elements_bytes (es ++ ((id, v) ∷ [])))
elements_more b p es x y at id v e a h =
    h ∙ ap₂ (λ (z : List ℕ) (k : ℕ). put z k (element_bytes id v)) e a ∙ sym (put_append b p (elements_bytes es) (element_bytes id v))
    ∙ ap (put b p) (sym (elements_snoc es id v))

pub elements_none : (b : List ℕ) (p : ℕ) → b ≡ put b p (elements_bytes [])
unfolding elements_bytes
elements_none b p = sym (put_nil b p)

pub message_put : (b x y : List ℕ) (n : ℕ) (es : List (ℕ × List ℕ)) → x ≡ put b 0 (digits 4 n) → y ≡ put x 4 (elements_bytes es) → n ≡ length es → y ≡ put b 0 (message es)
unfolding message
message_put b x y n es e h l =
    let q : 4 ≡ 0 + length (digits 4 n) = sym (length_digits 4 n) ∙ omega arith in
    h ∙ ap₂ (λ (z : List ℕ) (k : ℕ). put z k (elements_bytes es)) e q ∙ sym (put_append b 0 (digits 4 n) (elements_bytes es)) ∙ ap (λ (k : ℕ). put b 0 (digits 4 k ++ elements_bytes es)) l

pub length_message : (es : List (ℕ × List ℕ)) → length (message es) ≡ 4 + length (elements_bytes es)
unfolding message
length_message es = length-append (digits 4 (length es)) (elements_bytes es) ∙ ap (λ (n : ℕ). n + length (elements_bytes es)) (length_digits 4 (length es))
