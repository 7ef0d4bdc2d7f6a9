-- The cache after a run: the laws of the loop that keeps the output's elements. Assumes nothing.
use mathlib.Core.Path.{◌≡◌, refl, sym, ap, ap₂, ◌∙◌, subst}
use mathlib.Core.List.{List, [], ◌∷◌}
use Prim.Native.Nat.{ℕ, ◌+◌, ◌^◌, ◌≤◌, ◌<◌}
use native.Mathlib.Numerals.{add-one}
use native.Mathlib.Omega.{arith}
use lib.ListN.{length}
use Rattle.octets.specs.Bytes.{bytes_at, put, zeros}
use Rattle.std.specs.Prelude.{Some}
use Rattle.elements.specs.declared.Cell.{Cell}
use Rattle.elements.specs.Table.{kind_of}
use Rattle.elements.specs.Cells.{cell_of, register_cell}
use Rattle.elements.proofs.CellLaws.{cell_known}
use Rattle.gsb.specs.Walk.{count_of, id_at, size_at, next_at, offset_at}
use Rattle.gsb.proofs.Walks.{offset_next}
use Rattle.transfer.specs.Transfer.{value_at, put_as, applied}
use Rattle.l1.specs.Marks.{Cache, with_mark}
use Rattle.l1.specs.Cache.{marked, refreshed}
use Rattle.l1.specs.Private.{Sized, kept_at, Keeps, AllKeeps}

-- ---- one element
module _ (b : List ℕ) (at : ℕ) (k : Keeps b at) where
  pub header_id : at + 2 ≤ length b
  header_id = omega (arith, k.inside)

  pub header_fits : length b < 2 ^ 64 → at + 4 < 2 ^ 64
  header_fits l = omega (arith, k.inside)

  module _ (id : ℕ) (e : id ≡ id_at b at) (x : Cell) (c : x ≡ cell_of id) where
    is_cell : cell_of (id_at b at) ≡ x
    is_cell = sym (c ∙ ap cell_of e)

    same_size : size_at b at ≡ x.size
    same_size = k.size ∙ ap (λ (y : Cell). y.size) is_cell

    pub keep_sized : Sized x.size
    keep_sized = subst (λ (y : Cell). Sized y.size) is_cell k.cell.sized

    pub keep_from : at + 4 + x.size ≤ length b
    keep_from = omega (arith, k.inside, same_size)

    pub keep_to : (n : ℕ) → n ≡ 1820 → x.position + x.size ≤ n
    keep_to n l = omega (arith, k.cell.inside, ap (λ (y : Cell). y.position) is_cell, ap (λ (y : Cell). y.size) is_cell)

    pub keep_number : x.number < 384
    keep_number = omega (arith, k.cell.number, ap (λ (y : Cell). y.number) is_cell)

    pub keep_fits : length b < 2 ^ 64 → at + 4 + x.size < 2 ^ 64
    keep_fits l = omega (arith, keep_from)

    pub keep_next : at + 4 + x.size ≡ next_at b at
    keep_next = ap (λ (n : ℕ). at + 4 + n) (sym same_size)

    pub kept : (vs ms us ns : List ℕ) → us ≡ put vs x.position (bytes_at b (at + 4) x.size) → ns ≡ with_mark ms x.number
        → ◌≡◌ {A = Cache} (record { values = us; marks = ns }) (kept_at (record { values = vs; marks = ms }) (cell_of (id_at b at)) (value_at b at))
    unfolding kept_at
    kept vs ms us ns u w =
        ap₂ (λ (y z : List ℕ). record { values = y; marks = z }) (u ∙ ap (λ (n : ℕ). put vs x.position (bytes_at b (at + 4) n)) (sym same_size)) w
        ∙ ap (λ (y : Cell). kept_at (record { values = vs; marks = ms }) y (value_at b at)) (sym is_cell)

  -- a register of 8 bytes
  module _ (id : ℕ) (e : id ≡ id_at b at) (x : Cell) (r : Some x ≡ register_cell id) (h : x.size ≡ 8) where
    cell : x ≡ cell_of id
    cell = cell_known id x r

    pub double_from : at + 4 + 8 ≤ length b
    double_from = omega (arith, keep_from id e x cell)

    pub double_to : (n : ℕ) → n ≡ 1820 → x.position + 8 ≤ n
    double_to n l = omega (arith, keep_to id e x cell n l)

    pub double_number : x.number < 384
    double_number = keep_number id e x cell

    pub double_fits : length b < 2 ^ 64 → at + 12 < 2 ^ 64
    double_fits l = omega (arith, double_from)

    pub double_next : at + 12 ≡ next_at b at
    double_next = omega (arith, keep_next id e x cell)

    pub double_kept : (vs ms us ns : List ℕ) → us ≡ put vs x.position (bytes_at b (at + 4) 8) → ns ≡ with_mark ms x.number
        → ◌≡◌ {A = Cache} (record { values = us; marks = ns }) (kept_at (record { values = vs; marks = ms }) (cell_of (id_at b at)) (value_at b at))
    double_kept vs ms us ns u w = kept id e x cell vs ms us ns (u ∙ ap (λ (n : ℕ). put vs x.position (bytes_at b (at + 4) n)) (sym h)) w

-- ---- all of them
pub keeps_long : (b : List ℕ) → AllKeeps b → 0 + 4 ≤ length b
keeps_long b a = omega (arith, a.long)

pub keeps_at : (b : List ℕ) (count i at : ℕ) → AllKeeps b → count ≡ count_of b → i < count → at ≡ offset_at b i → Keeps b at
keeps_at b count i at a c h o = subst (Keeps b) (sym o) (a.each i (omega arith))

-- after the first i elements of the output
abbrev pub kept_upto : List ℕ → List ℕ → ℕ → Cache
kept_upto b vs i = record { values = applied 0 b i vs; marks = marked (zeros 6) b i }

module _ (b vs : List ℕ) where
  pub keeps_start : ◌≡◌ {A = Cache} (record { values = vs; marks = 0 ∷ 0 ∷ 0 ∷ 0 ∷ 0 ∷ 0 ∷ [] }) (kept_upto b vs 0)
  unfolding applied marked zeros
  keeps_start = refl

  pub keeps_turn : (i at : ℕ) (ws ms us ns : List ℕ) → Keeps b at → at ≡ offset_at b i → ◌≡◌ {A = Cache} (record { values = ws; marks = ms }) (kept_upto b vs i)
      → ◌≡◌ {A = Cache} (record { values = us; marks = ns }) (kept_at (record { values = ws; marks = ms }) (cell_of (id_at b at)) (value_at b at))
      → ◌≡◌ {A = Cache} (record { values = us; marks = ns }) (kept_upto b vs (i + 1))
  unfolding kept_at cell_of applied marked
  keeps_turn i at ws ms us ns k o e q =
      q ∙ ap (λ (c : Cache). kept_at c (cell_of (id_at b at)) (value_at b at)) e
      ∙ ap (λ (y : List ℕ). record { values = y; marks = with_mark (marked (zeros 6) b i) (cell_of (id_at b at)).number }) (sym (k.puts (value_at b at) (applied 0 b i vs)))
      ∙ ap (λ (a : ℕ). record { values = put_as (kind_of (id_at b a)) 0 (value_at b a) (applied 0 b i vs); marks = with_mark (marked (zeros 6) b i) (cell_of (id_at b a)).number }) o
      ∙ ap (kept_upto b vs) (sym (add-one i))

  pub keeps_end : (i count : ℕ) (us ns ms : List ℕ) → ◌≡◌ {A = Cache} (record { values = us; marks = ns }) (kept_upto b vs i) → count ≡ count_of b → i ≤ count → count ≤ i
      → ◌≡◌ {A = Cache} (record { values = us; marks = ns }) (refreshed (record { values = vs; marks = ms }) b)
  unfolding refreshed
  keeps_end i count us ns ms e c a h = let q : i ≡ count_of b = omega arith in e ∙ ap (kept_upto b vs) q

pub next_offset : (b : List ℕ) (i at n : ℕ) → at ≡ offset_at b i → n ≡ next_at b at → n ≡ offset_at b (i + 1)
next_offset b i at n o e = e ∙ offset_next b i at o
