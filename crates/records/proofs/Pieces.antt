-- THEOREM `replay_in_pieces`: however the input is cut into pieces, what is printed is what is printed for the whole. THEOREM `window_room`: while
-- more is read, fewer bytes are kept than the longest record has. THEOREM `replay_is_read`: a window played is a read. THEOREM `never_refused`: no read
-- of the program is refused. Assumes nothing.
use mathlib.Core.Path.{◌≡◌, refl, sym, ap, ap₂, ◌∙◌, subst, subst₂}
use mathlib.Core.Bool.{Bool, true, false, not, ◌&&◌, ◌||◌, cond, true≢false}
use mathlib.Core.List.{List, [], ◌∷◌, ◌++◌, append_assoc, append-nil}
use Prim.Native.Nat.{ℕ, zero, suc, ◌+◌, ◌-◌, ◌/◌, ◌^◌, ◌≤◌, ◌<◌}
use native.Mathlib.Omega.{arith}
use lib.Dec.{leb, ltb}
use lib.ListN.{length, length-append}
use borrow.Author.Tests.{leb-false, le-ltb}
use Rattle.octets.specs.Bytes.{bytes_at, put}
use Rattle.octets.proofs.Bytes.{length_put, length_bytes_at, read_back, whole as all-bytes, part_append}
use Rattle.store.specs.declared.Layout.{Layout}
use Rattle.store.specs.Store.{fresh}
use Rattle.l0.specs.Numbered.{CallRecord}
use Rattle.records.specs.declared.Head.{Head}
use Rattle.std.specs.Prelude.{Ok, Err}
use Rattle.records.specs.declared.Unread.TheVariants.{Cut, Bad}
use Rattle.records.specs.Record.{Read, head_at, record_at, record_length, head_good, read_head}
use Rattle.records.specs.Replay.{turn, record_line, bad_line, Played, behind, on_record, played, played_all, is_record, is_bad, stops_at, printed, window_text, line_room, refuses, WindowOutcome, windowed, replayed}
use Rattle.records.specs.Pieces.{Night, night_start, behind_window, fed, fed_all, joined, InPieces, longest, HasRoom, Leads, IsRead, window_bytes, text_bytes, NeverRefused}
use Rattle.records.proofs.Beside.{read_behind, record_behind, stops_behind, read_before, record_before}
use Rattle.records.proofs.Finished.{window_played, ready_is}
use Rattle.records.proofs.Played.{head_fits, whole, none_behind, on, plays, rests}

-- ---- where playing stops
module _ (l : Layout) (b : List ℕ) where
  stop_inside : (f : ℕ) (s : List ℕ) (at n : ℕ) → at ≤ length b → (played f l s b at n).at ≤ length b
  unfolding played on_record
  stop_inside zero s at n h = h
  stop_inside (suc f) s at n h = go (read_head b at) refl (λ x. stop_inside f (turn l s (record_at b at)).store (at + record_length x) (n + 1))
    where
      go : (r : Read) → read_head b at ≡ r
          → ((x : Head) → at + record_length x ≤ length b → (played f l (turn l s (record_at b at)).store b (at + record_length x) (n + 1)).at ≤ length b)
          → (on l b s at n f r).at ≤ length b
      go (Ok x) e ih = ih x (whole b at x e).inside
      go (Err u) e ih = h

  stop_unread : (f : ℕ) (s : List ℕ) (at n : ℕ) → length b ≤ f + at → is_record (read_head b (played f l s b at n).at) ≡ false
  unfolding played on_record
  stop_unread zero s at n h = ap is_record (none_behind b at (omega arith))
  stop_unread (suc f) s at n h = go (read_head b at) refl (λ x. stop_unread f (turn l s (record_at b at)).store (at + record_length x) (n + 1) (omega arith))
    where
      go : (r : Read) → read_head b at ≡ r
          → ((x : Head) → is_record (read_head b (played f l (turn l s (record_at b at)).store b (at + record_length x) (n + 1)).at) ≡ false)
          → is_record (read_head b (on l b s at n f r).at) ≡ false
      go (Ok x) e ih = ih x
      go (Err u) e ih = ap is_record e

  -- a record has more bytes than it adds to the number
  stop_number : (f : ℕ) (s : List ℕ) (at n : ℕ) → (played f l s b at n).number + at ≤ (played f l s b at n).at + n
  unfolding played on_record
  stop_number zero s at n = omega arith
  stop_number (suc f) s at n = go (read_head b at) (λ x. stop_number f (turn l s (record_at b at)).store (at + record_length x) (n + 1))
    where
      go : (r : Read)
          → ((x : Head) → (played f l (turn l s (record_at b at)).store b (at + record_length x) (n + 1)).number + (at + record_length x) ≤ (played f l (turn l s (record_at b at)).store b (at + record_length x) (n + 1)).at + (n + 1))
          → (on l b s at n f r).number + at ≤ (on l b s at n f r).at + n
      go (Ok x) ih = omega (arith, ih x)
      go (Err u) ih = omega arith

-- ---- bytes behind: playing goes on where it stopped
module _ (l : Layout) (b y : List ℕ) where
  abbrev from : List ℕ → ℕ → ℕ → Played
  from s at n = played (length (b ++ y) - at) l s (b ++ y) at n

  abbrev onward : Played → Played
  onward p = behind p.lines (from p.store p.at p.number)

  goes_on : (f : ℕ) (s : List ℕ) (at n : ℕ) → from s at n ≡ onward (played f l s b at n)
  unfolding played on_record
  goes_on zero s at n = refl
  goes_on (suc f) s at n = go (read_head b at) refl (λ x. goes_on f (turn l s (record_at b at)).store (at + record_length x) (n + 1))
    where
      go : (r : Read) → read_head b at ≡ r
          → ((x : Head) → from (turn l s (record_at b at)).store (at + record_length x) (n + 1) ≡ onward (played f l (turn l s (record_at b at)).store b (at + record_length x) (n + 1)))
          → from s at n ≡ onward (on l b s at n f r)
      go (Ok x) e ih =
          let i = whole b at x e in
          let same : record_at (b ++ y) at ≡ record_at b at = record_before b y at (subst (λ (h : Head). at + record_length h ≤ length b) i.is i.inside) in
          let r = record_at b at in
          let line = record_line n x.kind (turn l s (record_at b at)).registers in
          let p = played f l (turn l s r).store b (at + record_length x) (n + 1) in
          plays l (b ++ y) s at n x (read_before b y at (Ok x) e refl)
          ∙ ap (λ (c : CallRecord). behind (record_line n x.kind (turn l s c).registers) (from (turn l s c).store (at + record_length x) (n + 1))) same
          ∙ ap (behind line) (ih x)
          ∙ sym (ap (λ (z : List ℕ). record { store = (onward p).store; lines = z; at = (onward p).at; number = (onward p).number }) (append_assoc line p.lines (from p.store p.at p.number).lines))
      go (Err u) e ih = refl

-- ---- bytes before: playing is the same at another place
abbrev later : ℕ → Played → Played
later k p = record { store = p.store; lines = p.lines; at = k + p.at; number = p.number }

module _ (l : Layout) (q x : List ℕ) where
  shifted : (f : ℕ) (s : List ℕ) (at n : ℕ) → played f l s (q ++ x) (length q + at) n ≡ later (length q) (played f l s x at n)
  unfolding played on_record
  shifted zero s at n = refl
  shifted (suc f) s at n =
      ap (on l (q ++ x) s (length q + at) n f) (read_behind q x at)
      ∙ go (read_head x at) (λ h. shifted f (turn l s (record_at x at)).store (at + record_length h) (n + 1))
    where
      go : (r : Read)
          → ((h : Head) → played f l (turn l s (record_at x at)).store (q ++ x) (length q + (at + record_length h)) (n + 1) ≡ later (length q) (played f l (turn l s (record_at x at)).store x (at + record_length h) (n + 1)))
          → on l (q ++ x) s (length q + at) n f r ≡ later (length q) (on l x s at n f r)
      go (Ok h) ih =
          let next : length q + at + record_length h ≡ length q + (at + record_length h) = omega arith in
          ap₂ (λ (c : CallRecord) (i : ℕ). behind (record_line n h.kind (turn l s c).registers) (played f l (turn l s c).store (q ++ x) i (n + 1))) (record_behind q x at) next
          ∙ ap (behind (record_line n h.kind (turn l s (record_at x at)).registers)) (ih h)
      go (Err u) ih = refl

  -- all of x, where q was used
  shifted_all : (b : List ℕ) (at : ℕ) → b ≡ q ++ x → length q ≡ at → (s : List ℕ) (n : ℕ) → played (length b - at) l s b at n ≡ later at (played_all l s x n)
  unfolding played_all
  shifted_all b at e f s n =
      let long : length b ≡ length q + length x = ap (λ (z : List ℕ). length z) e ∙ length-append q x in
      let turns : length b - at ≡ length x = omega arith in
      let here : at ≡ length q + 0 = omega arith in
      ap (λ (k : ℕ). played k l s b at n) turns
      ∙ ap₂ (λ (z : List ℕ) (i : ℕ). played (length x) l s z i n) e here
      ∙ shifted (length x) s 0 n
      ∙ ap (λ (k : ℕ). later k (played (length x) l s x 0 n)) f

-- ---- a window, and what follows it
cut_at : (b : List ℕ) (at : ℕ) → at ≤ length b → b ≡ bytes_at b 0 at ++ bytes_at b at (length b - at)
cut_at b at h =
    let all : length b ≡ at + (length b - at) = omega arith in
    let here : 0 + at ≡ at = omega arith in
    sym (all-bytes b) ∙ ap (bytes_at b 0) all ∙ part_append b 0 at (length b - at) ∙ ap (λ (i : ℕ). bytes_at b 0 at ++ bytes_at b i (length b - at)) here

module _ (l : Layout) (s b y : List ℕ) (n offset : ℕ) where
  abbrev first : Played
  first = played_all l s b n

  abbrev kept : List ℕ
  kept = bytes_at b first.at (length b - first.at)

  -- what the whole prints from there on
  abbrev follows : List ℕ
  follows = window_text true (offset + first.at) (kept ++ y) (played_all l first.store (kept ++ y) first.number)

  first_inside : first.at ≤ length b
  unfolding played_all
  first_inside = stop_inside l b (length b) s 0 n (omega arith)

  all_played : played_all l s (b ++ y) n ≡ onward l b y first
  unfolding played_all
  all_played =
      let all : length (b ++ y) ≡ length (b ++ y) - 0 = omega arith in
      ap (λ (k : ℕ). played k l s (b ++ y) 0 n) all ∙ goes_on l b y (length b) s 0 n

  in_two : b ++ y ≡ bytes_at b 0 first.at ++ (kept ++ y)
  in_two =
      ap (λ (z : List ℕ). z ++ y) (cut_at b first.at first_inside)
      ∙ append_assoc (bytes_at b 0 first.at) kept y

  used_long : length (bytes_at b 0 first.at) ≡ first.at
  used_long = length_bytes_at b 0 first.at (omega (arith, first_inside))

  -- a bad record: nothing follows it
  after_bad : read_head b first.at ≡ Err Bad
      → window_text true offset (b ++ y) (played_all l s (b ++ y) n) ≡ (first.lines ++ bad_line (offset + first.at)) ++ []
  unfolding window_text stops_at
  after_bad e =
      let at = first.at in
      let bad : read_head (b ++ y) first.at ≡ Err Bad = read_before b y at (Err Bad) e refl in
      let here = rests l (b ++ y) (length (b ++ y) - at) first.store at first.number (ap is_record bad) in
      ap (window_text true offset (b ++ y)) (all_played ∙ ap (behind first.lines) here)
      ∙ ap₂ (λ (z : List ℕ) (r : Read). z ++ cond (is_bad r || (true && ltb at (length (b ++ y)))) (bad_line (offset + at)) []) (append-nil first.lines) bad
      ∙ sym (append-nil (first.lines ++ bad_line (offset + at)))

  -- none: what follows is played from the store, the number and the offset that stand there
  after_open : window_text true offset (b ++ y) (played_all l s (b ++ y) n) ≡ (first.lines ++ []) ++ follows
  unfolding window_text
  after_open =
      let at = first.at in
      let others = played_all l first.store (kept ++ y) first.number in
      let there : offset + (first.at + others.at) ≡ offset + first.at + others.at = omega arith in
      let stops : stops_at true (b ++ y) (first.at + others.at) ≡ stops_at true (kept ++ y) others.at =
      ap₂ (λ (z : List ℕ) (k : ℕ). stops_at true z (k + others.at)) in_two (sym used_long) ∙ stops_behind (bytes_at b 0 at) (kept ++ y) others.at true in
      ap (window_text true offset (b ++ y)) (all_played ∙ ap (behind first.lines) (shifted_all l (bytes_at b 0 at) (kept ++ y) (b ++ y) at in_two used_long first.store first.number))
      ∙ ap₂ (λ (t : Bool) (k : ℕ). (first.lines ++ others.lines) ++ cond t (bad_line k) []) stops there
      ∙ append_assoc first.lines others.lines _
      ∙ ap (λ (z : List ℕ). z ++ follows) (sym (append-nil first.lines))

  pub window_then : window_text true offset (b ++ y) (played_all l s (b ++ y) n)
      ≡ window_text false offset b first ++ cond (not (stops_at false b first.at || false)) follows []
  unfolding window_text stops_at
  window_then = go (read_head b first.at) refl
    where
      go : (r : Read) → read_head b first.at ≡ r
          → window_text true offset (b ++ y) (played_all l s (b ++ y) n)
          ≡ (first.lines ++ cond (is_bad r || false) (bad_line (offset + first.at)) []) ++ cond (not ((is_bad r || false) || false)) follows []
      go (Ok h) e = after_open
      go (Err Cut) e = after_open
      go (Err Bad) e = after_bad e

-- ---- all pieces
module _ (l : Layout) where
  -- what is still printed if y is the rest of the input
  abbrev remains : Night → List ℕ → List ℕ
  remains t y = cond t.more (window_text true t.offset (t.kept ++ y) (played_all l t.store (t.kept ++ y) t.number)) []

  module _ (kept store : List ℕ) (number offset : ℕ) (text : List ℕ) where
    abbrev night : Bool → Night
    night m = record { kept = kept; store = store; number = number; offset = offset; text = text; more = m }

    piece_of : (m : Bool) (piece y : List ℕ) → (fed l false (night m) piece).text ++ remains (fed l false (night m) piece) y ≡ text ++ remains (night m) (piece ++ y)
    unfolding fed behind_window
    piece_of true piece y =
        append_assoc text _ _
        ∙ ap (λ (z : List ℕ). text ++ z) (sym (window_then l store (kept ++ piece) y number offset))
        ∙ ap (λ (z : List ℕ). text ++ window_text true offset z (played_all l store z number)) (append_assoc kept piece y)
    piece_of false piece y = refl

    end_of : (m : Bool) → (fed l true (night m) []).text ≡ text ++ remains (night m) []
    unfolding fed behind_window
    end_of true = refl
    end_of false = sym (append-nil text)

  pieces_then : (pieces : List (List ℕ)) (t : Night) → (fed l true (fed_all l t pieces) []).text ≡ t.text ++ remains t (joined pieces)
  unfolding fed_all joined
  pieces_then [] t = end_of t.kept t.store t.number t.offset t.text t.more
  pieces_then (piece ∷ pieces) t =
      pieces_then pieces (fed l false t piece)
      ∙ piece_of t.kept t.store t.number t.offset t.text t.more piece (joined pieces)

  pub replay_in_pieces : (pieces : List (List ℕ)) → InPieces l pieces
  unfolding printed window_text
  replay_in_pieces pieces =
      let b = joined pieces in
      let p = played_all l (fresh l) (joined pieces) 0 in
      let here : 0 + p.at ≡ p.at = omega arith in
      pieces_then pieces (night_start l) ∙ ap (λ (k : ℕ). p.lines ++ cond (stops_at true b p.at) (bad_line k) []) here

-- ---- what is kept
-- of a record that is cut fewer bytes are there than the longest has
cut_short : (b : List ℕ) (at : ℕ) → read_head b at ≡ Err Cut → length b < at + longest
unfolding read_head
cut_short b at e = go (leb (at + 31) (length b)) refl (head_good b at) (leb (at + record_length (head_at b at)) (length b)) refl e
  where
    go : (x : Bool) → leb (at + 31) (length b) ≡ x → (y z : Bool) → leb (at + record_length (head_at b at)) (length b) ≡ z
        → cond x (cond y (cond z (Ok (head_at b at)) (Err Cut)) (Err Bad)) (Err Cut) ≡ Err Cut → length b < at + longest
    go false p y z q c = let n : length b < at + 31 = leb-false _ _ p in omega arith
    go true p false z q c = absurd (true≢false (ap is_bad c))
    go true p true false q c = let n : length b < at + record_length (head_at b at) = leb-false _ _ q in omega (arith, (head_fits b at).0, (head_fits b at).1)
    go true p true true q c = absurd (true≢false (ap is_record c))

no_record : (r : Read) → is_record r ≡ false → is_bad r ≡ false → r ≡ Err Cut
no_record (Ok h) e f = absurd (true≢false e)
no_record (Err Cut) e f = refl
no_record (Err Bad) e f = absurd (true≢false f)

not_bad : (bad ended x : Bool) → not ((bad || x) || ended) ≡ true → bad ≡ false
not_bad true ended x e = absurd (true≢false (sym e))
not_bad false ended x e = refl

few_kept : (b : List ℕ) (at : ℕ) → is_record (read_head b at) ≡ false → is_bad (read_head b at) ≡ false → at ≤ length b → length (bytes_at b at (length b - at)) < longest
few_kept b at e f h =
    let short : length b < at + longest = cut_short b at (no_record (read_head b at) e f) in
    let long : length (bytes_at b at (length b - at)) ≡ length b - at = length_bytes_at b at (length b - at) (omega arith) in
    omega arith

module _ (l : Layout) (ended : Bool) (t : Night) (piece : List ℕ) where
  abbrev window : List ℕ
  window = t.kept ++ piece

  abbrev all : Played
  all = played_all l t.store window t.number

  all_inside : all.at ≤ length window
  all_inside = first_inside l t.store window [] t.number 0

  all_unread : is_record (read_head window all.at) ≡ false
  unfolding played_all
  all_unread = stop_unread l window (length window) t.store 0 t.number (omega arith)

  reads_on : (m : Bool) → t.more ≡ m → fed l ended t piece ≡ cond m (behind_window ended t window all) t
  unfolding fed
  reads_on m e = ap (λ (x : Bool). cond x (behind_window ended t window all) t) e

  room_of_lem : (m : Bool) → t.more ≡ m → (cond m (behind_window ended t window all) t).more ≡ true → length (cond m (behind_window ended t window all) t).kept < longest
  unfolding behind_window stops_at
  room_of_lem true e f = few_kept window all.at all_unread (not_bad (is_bad (read_head window all.at)) ended _ f) all_inside
  room_of_lem false e f = absurd (true≢false (sym f ∙ e))

  pub window_room : HasRoom l ended t piece
  unfolding fed
  window_room = room_of_lem t.more refl

  -- ---- the program's window
  module _ (w text : List ℕ) (filled : ℕ) (front : bytes_at w 0 filled ≡ window) (taken : refuses (length w) filled t.number t.offset (length text) ≡ false) where
    abbrev shown : List ℕ
    shown = window_text ended t.offset window all

    window_fits : length window ≤ length w
    window_fits =
        let inside = ready_is (length w) filled t.number t.offset (length text) true (sym (ap not taken)) refl in
        let long : length (bytes_at w 0 filled) ≡ filled = length_bytes_at w 0 filled (omega (arith, inside.within)) in
        omega (arith, inside.within, ap (λ (x : List ℕ). length x) front)

    played_window : windowed ended t.offset window w text all ≡ replayed l t.store w filled ended t.number t.offset text
    played_window =
        window_played l t.store w filled ended t.number t.offset text true (sym (ap not taken)) _ refl
        (sym (ap (λ (x : List ℕ). windowed ended t.offset x w text (played_all l t.store x t.number)) front))

    leads : Leads t (behind_window ended t window all) (windowed ended t.offset window w text all)
    unfolding behind_window windowed
    leads =
        let at = all.at in
        let rest = bytes_at window all.at (length window - all.at) in
        let long : length (bytes_at window all.at (length window - all.at)) ≡ length window - all.at = length_bytes_at window at (length window - at) (omega (arith, all_inside)) in
        let room : 0 + length (bytes_at window all.at (length window - all.at)) ≤ length w = omega (arith, window_fits) in
        record {
          step = _;
          result = refl;
          store = refl;
          kept = ap (bytes_at (put w 0 rest) 0) (sym long) ∙ read_back w 0 rest room;
          long = sym long;
          number = refl;
          offset = refl;
          more = refl;
          text = λ h. ap (λ (x : List ℕ). t.text ++ x) (read_back text 0 shown (omega (arith, length_put text 0 shown, h)));
        }

    leads_on : t.more ≡ true → Leads t (fed l ended t piece) (replayed l t.store w filled ended t.number t.offset text)
    leads_on e = subst₂ (λ (u : Night) (o : WindowOutcome). Leads t u o) (sym (reads_on true e)) played_window leads

  pub replay_is_read : (w : List ℕ) (filled : ℕ) (text : List ℕ) → IsRead l ended t piece w filled text
  replay_is_read w filled text e front taken = leads_on w text filled front taken e

-- ---- no read is refused
-- what stands after some reads: records are fewer than their bytes, and these and those kept are within what was read
record InStep (t : Night) (read : ℕ) : Type 0 where
  number : t.number ≤ t.offset
  kept : t.offset + length t.kept ≤ read

module _ (l : Layout) where
  step_of : (t : Night) (piece : List ℕ) (m : Bool) (read : ℕ) → InStep t read
      → InStep (cond m (behind_window false t (t.kept ++ piece) (played_all l t.store (t.kept ++ piece) t.number)) t) (read + length piece)
  unfolding behind_window played_all
  step_of t piece true read i =
      let b = t.kept ++ piece in
      let p = played (length b) l t.store b 0 t.number in
      let counted : p.number + 0 ≤ p.at + t.number = stop_number l b (length b) t.store 0 t.number in
      let inside : p.at ≤ length b = stop_inside l b (length b) t.store 0 t.number (omega arith) in
      let long : length (bytes_at b p.at (length b - p.at)) ≡ length b - p.at = length_bytes_at b p.at (length b - p.at) (omega arith) in
      record {
        number = omega (arith, i.number);
        kept = omega (arith, i.kept, length-append t.kept piece);
      }
  step_of t piece false read i = record { number = i.number; kept = omega (arith, i.kept) }

  steps_of : (pieces : List (List ℕ)) (t : Night) (read : ℕ) → InStep t read → InStep (fed_all l t pieces) (read + length (joined pieces))
  unfolding fed_all joined fed
  steps_of [] t read i = record { number = i.number; kept = omega (arith, i.kept) }
  steps_of (piece ∷ pieces) t read i =
      let u = fed l false t piece in
      let e : read + length piece + length (joined pieces) ≡ read + length (piece ++ joined pieces) = omega (arith, length-append piece (joined pieces)) in
      subst (InStep (fed_all l u pieces)) e (steps_of pieces u (read + length piece) (step_of t piece t.more read i))

  steady : (pieces : List (List ℕ)) → InStep (fed_all l (night_start l) pieces) (length (joined pieces))
  steady pieces =
      let e : 0 + length (joined pieces) ≡ length (joined pieces) = omega arith in
      subst (InStep (fed_all l (night_start l) pieces)) e (steps_of pieces (night_start l) 0 (record { number = omega arith; kept = omega arith }))

  pub never_refused : (pieces : List (List ℕ)) (piece : List ℕ) → NeverRefused l pieces piece
  unfolding refuses
  never_refused pieces piece short room =
      let t = fed_all l (night_start l) pieces in
      let i : InStep (fed_all l (night_start l) pieces) (length (joined pieces)) = steady pieces in
      let filled = length (t.kept ++ piece) in
      let all : length ((fed_all l (night_start l) pieces).kept ++ piece) ≡ length (fed_all l (night_start l) pieces).kept + length piece = length-append t.kept piece in
      none_of (le-ltb window_bytes filled room)
      (le-ltb (text_bytes / line_room) (filled / 31 + 2) (omega arith))
      (le-ltb t.offset t.number i.number)
      (le-ltb (2 ^ 64 - 1) (t.offset + filled) (omega (arith, i.kept)))
    where
      none_of : {w x y z : Bool} → w ≡ false → x ≡ false → y ≡ false → z ≡ false → (w || (x || (y || z))) ≡ false
      none_of {w} {x} {y} {z} a b c d = ap₂ (λ (p : Bool) (q : Bool). p || (q || (y || z))) a b ∙ ap₂ (λ (p : Bool) (q : Bool). p || q) c d
