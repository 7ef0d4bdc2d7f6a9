-- THEOREM `replay_one_by_one`: what is printed for the bytes of some records is a line for each, with the answers of the same calls made one by one
-- from a fresh store; if the bytes end within a record or go bad behind them, then 19 with that offset. THEOREM `every_input`: any bytes are those of
-- some records with some behind them that begin none. Assumes nothing.
use mathlib.Core.Path.{◌≡◌, refl, sym, ap, ap₂, ◌∙◌}
use mathlib.Core.Bool.{Bool, true, false, ◌&&◌, ◌||◌, cond, true≢false}
use mathlib.Core.List.{List, [], ◌∷◌, ◌++◌, append_assoc}
use Prim.Native.Nat.{ℕ, zero, suc, ◌+◌, ◌-◌, ◌≤◌, ◌<◌}
use native.Mathlib.Omega.{arith}
use lib.Dec.{leb}
use lib.ListN.{length, get_or, drop, length-append, length-drop}
use lib.Seq.{get_or-drop}
use borrow.Author.Tests.{leb-true, lt-ltb, le-ltb}
use Rattle.answer.specs.declared.Registers.{Registers}
use Rattle.store.specs.declared.Layout.{Layout}
use Rattle.store.specs.Store.{fresh}
use Rattle.l0.specs.Numbered.{CallRecord, called}
use Rattle.std.specs.Prelude.{Ok, Err}
use Rattle.records.specs.declared.Unread.TheVariants.{Cut, Bad}
use Rattle.records.specs.Record.{Read, is_kind, head_at, record_at, record_length, read_head}
use Rattle.records.specs.Write.{head_of, packed, fits_record}
use Rattle.records.specs.Replay.{turn, record_line, bad_line, Played, behind, played, played_all, is_record, is_bad, stops_at, printed}
use Rattle.records.proofs.WriteLaws.{kind_held}
use Rattle.records.proofs.Packed.{length_packed}
use Rattle.records.proofs.RoundTrip.{record_round_trip}
use Rattle.records.proofs.Repacked.{repacked, read_fits, read_words}
use Rattle.records.proofs.Beside.{read_behind}
use Rattle.records.proofs.Played.{none_behind, plays, rests}
use Rattle.promises.specs.History.{registers}
use Rattle.promises.specs.Replay.{packed_all, Recorded, nothing, one_more, call_on, answer_then, one_by_one, line_of_each, last_line, OneByOne, InRecords}

-- ---- a record's turn is its call
module _ (l : Layout) (s : List ℕ) (flags guest number exit : ℕ) (d effect : List ℕ) (others : List ℕ → List Registers) where
  abbrev given : ℕ → CallRecord
  given k = record { kind = k; flags = flags; guest = guest; number = number; exit = exit; «data» = d; effect = effect }

  called_itself : (k : ℕ) → is_kind k ≡ true
      → answer_then l s (call_on l s (given k)) others ≡ (turn l s (given k)).registers ∷ others (turn l s (given k)).store
  unfolding is_kind turn called registers
  called_itself zero e = absurd (true≢false (sym e))
  called_itself (suc zero) e = refl
  called_itself (suc (suc zero)) e = refl
  called_itself (suc (suc (suc zero))) e = refl
  called_itself (suc (suc (suc (suc zero)))) e = refl
  called_itself (suc (suc (suc (suc (suc zero))))) e = refl
  called_itself (suc (suc (suc (suc (suc (suc zero)))))) e = refl
  called_itself (suc (suc (suc (suc (suc (suc (suc zero))))))) e = refl
  called_itself (suc (suc (suc (suc (suc (suc (suc (suc zero)))))))) e = refl
  called_itself (suc (suc (suc (suc (suc (suc (suc (suc (suc k))))))))) e = absurd (above (leb 1 k+9) (leb k+9 8) e (λ t. leb-true k+9 8 t))
    where
      k+9 : ℕ
      k+9 = suc (suc (suc (suc (suc (suc (suc (suc (suc k))))))))

      above : (a b : Bool) → (a && b) ≡ true → (b ≡ true → k+9 ≤ 8) → ⊥
      above true b q h = let n : k+9 ≤ 8 = h q in omega arith
      above false b q h = true≢false (sym q)

module _ (l : Layout) (r : CallRecord) (rs : List CallRecord) (fits : fits_record r ≡ true) (s : List ℕ) where
  one_turn : one_by_one l s (r ∷ rs) ≡ (turn l s r).registers ∷ one_by_one l (turn l s r).store rs
  unfolding one_by_one
  one_turn =
      called_itself l s r.flags r.guest r.number r.exit r.«data» r.effect (λ t. one_by_one l t rs) r.kind (kind_held (head_of r) fits)

all_answered : {rs : List CallRecord} → Recorded rs → (l : Layout) (s : List ℕ) → length (one_by_one l s rs) ≡ length rs
unfolding one_by_one
all_answered nothing l s = refl
all_answered (one_more {r} {rs} fits w more) l s =
    ap (λ (xs : List Registers). length xs) (one_turn l r rs fits s) ∙ ap suc (all_answered more l (turn l s r).store)

-- ---- the records one after the other, from byte `at` on, behind the bytes p
record Ends (q : Played) (lines : List ℕ) (at : ℕ) : Type 0 where
  lines_are : q.lines ≡ lines
  at_is : q.at ≡ at

module _ (l : Layout) (z : List ℕ) (none : is_record (read_head z 0) ≡ false) where
  ends : {rs : List CallRecord} → Recorded rs → (s b p : List ℕ) (at n : ℕ) → b ≡ p ++ (packed_all rs ++ z) → at ≡ length p
      → Ends (played (length b - at) l s b at n) (line_of_each n rs (one_by_one l s rs)) (at + length (packed_all rs))
  unfolding packed_all line_of_each one_by_one
  ends nothing s b p at n e f =
      let g : at ≡ length p + 0 = omega arith in
      let unread : is_record (read_head b at) ≡ false = ap₂ (λ (x : List ℕ) (i : ℕ). is_record (read_head x i)) e g ∙ ap is_record (read_behind p z 0) ∙ none in
      let here = rests l b (length b - at) s at n unread in
      let same : at ≡ at + 0 = omega arith in
      record { lines_are = ap (λ (q : Played). q.lines) here; at_is = ap (λ (q : Played). q.at) here ∙ same }
  ends (one_more {r} {rs} fits w more) s b p at n e f =
      let rest = packed_all rs ++ z in
      let mine : b ≡ p ++ (packed r ++ (packed_all rs ++ z)) = e ∙ ap (λ (x : List ℕ). p ++ x) (append_assoc (packed r) (packed_all rs) z) in
      let trip = record_round_trip r fits w p rest in
      let head : read_head b at ≡ Ok (head_of r) = ap₂ (λ (x : List ℕ) (i : ℕ). read_head x i) mine f ∙ trip.head in
      let whole : record_at b at ≡ r = ap₂ (λ (x : List ℕ) (i : ℕ). record_at x i) mine f ∙ trip.whole in
      let next = at + record_length (head_of r) in
      let others : b ≡ (p ++ packed r) ++ (packed_all rs ++ z) = mine ∙ sym (append_assoc p (packed r) rest) in
      let there : at + record_length (head_of r) ≡ length (p ++ packed r) = omega (arith, length-append p (packed r), length_packed r) in
      let ih = ends more (turn l s r).store b (p ++ packed r) next (n + 1) others there in
      let step = plays l b s at n (head_of r) head ∙ ap (λ (x : CallRecord). behind (record_line n r.kind (turn l s x).registers) (played (length b - next) l (turn l s x).store b next (n + 1))) whole in
      record {
        lines_are =
            ap (λ (q : Played). q.lines) step
            ∙ ap (λ (x : List ℕ). record_line n r.kind (turn l s r).registers ++ x) ih.lines_are
            ∙ sym (ap (line_of_each n (r ∷ rs)) (one_turn l r rs fits s));
        at_is =
            ap (λ (q : Played). q.at) step ∙ ih.at_is
            ∙ omega (arith, length-append (packed r) (packed_all rs), length_packed r);
      }

-- ---- the last line
cut_none : read_head [] 0 ≡ Err Cut
unfolding read_head
cut_none = refl

or_true : (a : Bool) (x y : List ℕ) → cond (a || true) x y ≡ x
or_true true x y = refl
or_true false x y = refl

last_is : (p z : List ℕ) → cond (stops_at true (p ++ z) (length p)) (bad_line (length p)) [] ≡ last_line (length p) z
unfolding stops_at
last_is p [] =
    let here : length p ≡ length p + 0 = omega arith in
    let cut : read_head (p ++ []) (length p) ≡ Err Cut = ap (read_head (p ++ [])) here ∙ read_behind p [] 0 ∙ cut_none in
    let ended : length (p ++ []) ≤ length p = omega (arith, length-append p []) in
    ap₂ (λ (r : Read) (t : Bool). cond (is_bad r || t) (bad_line (length p)) []) cut (le-ltb (length p) (length (p ++ [])) ended)
last_is p (x ∷ z) =
    let bytes_left : length p < length (p ++ (x ∷ z)) = omega (arith, length-append p (x ∷ z)) in
    let bad = is_bad (read_head (p ++ (x ∷ z)) (length p)) in
    ap (λ (t : Bool). cond (bad || t) (bad_line (length p)) []) (lt-ltb (length p) (length (p ++ (x ∷ z))) bytes_left) ∙ or_true bad (bad_line (length p)) []

lines_printed : {rs : List CallRecord} → Recorded rs → (l : Layout) (z : List ℕ) → is_record (read_head z 0) ≡ false
    → printed l (packed_all rs ++ z) ≡ line_of_each 0 rs (one_by_one l (fresh l) rs) ++ last_line (length (packed_all rs)) z
unfolding printed played_all
lines_printed {rs} w l z none =
    let b = packed_all rs ++ z in
    let all : length (packed_all rs ++ z) ≡ length (packed_all rs ++ z) - 0 = omega arith in
    let e = ends l z none w (fresh l) b [] 0 0 refl refl in
    let same = ap (λ (f : ℕ). played f l (fresh l) b 0 0) all in
    let front : 0 + length (packed_all rs) ≡ length (packed_all rs) = omega arith in
    ap₂ (λ (x : List ℕ) (i : ℕ). x ++ cond (stops_at true b i) (bad_line i) []) (ap (λ (q : Played). q.lines) same ∙ e.lines_are) (ap (λ (q : Played). q.at) same ∙ e.at_is ∙ front)
    ∙ ap (λ (x : List ℕ). line_of_each 0 rs (one_by_one l (fresh l) rs) ++ x) (last_is (packed_all rs) z)

pub replay_one_by_one : (l : Layout) (rs : List CallRecord) → Recorded rs → OneByOne l rs
replay_one_by_one l rs w = record { answers = all_answered w l (fresh l); lines = λ z none. lines_printed w l z none }

-- ---- any input
within : (f : ℕ) (b : List ℕ) → length b ≤ f → ((k : ℕ) → get_or b k 0 < 256) → InRecords b
unfolding packed_all
within zero b h small = record { records = []; rest = b; recorded = nothing; unread = ap is_record (none_behind b 0 h); bytes = refl }
within (suc f) b h small = go (read_head b 0) refl (within f (drop (record_length (head_at b 0)) b) shorter (λ k. rw (get_or-drop (record_length (head_at b 0)) b k 0) (small (record_length (head_at b 0) + k))))
  where
    others : List ℕ
    others = drop (record_length (head_at b 0)) b

    shorter : length others ≤ f
    shorter = omega (arith, length-drop (record_length (head_at b 0)) b)

    go : (r : Read) → read_head b 0 ≡ r → InRecords others → InRecords b
    go (Ok x) e o = record {
      records = record_at b 0 ∷ o.records;
      rest = o.rest;
      recorded = one_more (read_fits b x e) (read_words b x e) o.recorded;
      unread = o.unread;
      bytes = sym (repacked b x e small) ∙ ap (λ (z : List ℕ). packed (record_at b 0) ++ z) o.bytes ∙ sym (append_assoc (packed (record_at b 0)) (packed_all o.records) o.rest);
    }
    go (Err Cut) e o = record { records = []; rest = b; recorded = nothing; unread = ap is_record e; bytes = refl }
    go (Err Bad) e o = record { records = []; rest = b; recorded = nothing; unread = ap is_record e; bytes = refl }

pub every_input : (b : List ℕ) → ((k : ℕ) → get_or b k 0 < 256) → InRecords b
every_input b small = within (length b) b (omega arith) small
