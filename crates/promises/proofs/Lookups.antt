-- THEOREMS of the lookup: what is told past 5 (`lookup_refused_exactly`, `lookup_absent_exactly`, `lookup_accepted_exactly`), and that the
-- part is the value of the last counted element with the ID (`lookup_last`). Assumes nothing.
use mathlib.Core.Path.{◌≡◌, refl, sym, ap, ◌∙◌}
use mathlib.Core.Logic.{◌↔◌, ◌≢◌}
use mathlib.Core.Bool.{false}
use mathlib.Core.List.{List}
use Prim.Native.Nat.{ℕ, ◌+◌, ◌<◌}
use native.Mathlib.Omega.{arith}
use Rattle.answer.specs.declared.Bad.{Bad}
use Rattle.answer.specs.declared.Bad.TheVariants.{Size}
use Rattle.answer.specs.declared.Call.{Call as Name}
use Rattle.answer.specs.declared.Fault.{Fault}
use Rattle.answer.specs.declared.Registers.{Registers}
use Rattle.answer.specs.Answer.{three, told}
use Rattle.gsb.specs.declared.lookups.Found.{Found}
use Rattle.gsb.specs.Walk.{count_of, id_at, size_at, offset_at, bad_length, walk, Walked}
use Rattle.gsb.specs.First.{FirstBadAt, AllGood}
use Rattle.gsb.specs.Lookup.{framed, last_with, part_of, unless_cut, lookup_answer, looked_up, Counted, LastAt}
use Rattle.gsb.proofs.First.{refused_exactly, accepted_exactly}
use Rattle.gsb.proofs.LookupLaws.{framed_bad, framed_leads, looked_walk, last_nowhere, last_found, Sought, missing, present, sought}
use Rattle.promises.specs.Promised.{lookup_told}
use Rattle.promises.proofs.Told.{number_some, told_by, element_told, index_first_in, element_told_lem, good_told}
use Rattle.std.proofs.Common.{Option, Result, Ok, Err}

-- past 5
module _ (b : List ℕ) (id : ℕ) (g : bad_length b ≡ false) where
  abbrev cut : Walked
  cut = walk (framed b) (count_of b) 0 4

  abbrev shown : Result Found Fault → Registers
  shown f = told Name.Lookup (lookup_answer f).fault (lookup_answer f).value

  abbrev part : Result Found Fault
  part = part_of b (last_with b id (count_of b))

  -- what is told is what the walk finds, then what is found
  walk_told : lookup_told b id ≡ told_by (element_told Name.Lookup) (shown part) cut
  unfolding lookup_told unless_cut
  walk_told = ap shown (looked_walk b id g) ∙ go cut
    where
      go : (w : Walked) → shown (unless_cut w part) ≡ told_by (element_told Name.Lookup) (shown part) w
      go (Ok _) = refl
      go (Err stop) = refl

  part_missing : ((i : ℕ) → i < count_of b → id_at b (offset_at b i) ≢ id) → shown part ≡ three 6 (count_of b) 0
  unfolding part_of
  part_missing h = ap (λ (x : Option ℕ). shown (part_of b x)) (last_nowhere b id (count_of b) h)

  part_present : (i : ℕ) → i < count_of b → id_at b (offset_at b i) ≡ id → ((j : ℕ) → i < j → j < count_of b → id_at b (offset_at b j) ≢ id) → shown part ≡ three 0 0 0
  unfolding part_of
  part_present i l e h = ap (λ (x : Option ℕ). shown (part_of b x)) (last_found b id (count_of b) i l e h)

  -- ---- Demand 2: "a buffer is refused for an element exactly if it holds a bad one, and the place told is the first." 01: "It answers 5
  -- or 7 as above, only for cut elements". 02, L4: "Set and get state, and a lookup's 7, keep R4 as the index and put the byte offset in R5".
  pub lookup_refused_exactly : (i at : ℕ) → (lookup_told b id ≡ three 7 i at) ↔ (FirstBadAt (framed b) b i Size × (offset_at b i ≡ at))
  lookup_refused_exactly i at =
      element_told_lem (framed b) b (framed_leads b) cut refl Name.Lookup (shown part) Size (other (sought b id (count_of b))) index_first_in (λ bad place. refl) (record { index = i; offset = at }) (lookup_told b id) walk_told
    where
      other : Sought b id (count_of b) → (shown part).r3 ≢ 7
      other (missing h) e = let z : ◌≡◌ {A = ℕ} 6 7 = sym (ap (λ (r : Registers). r.r3) (part_missing h)) ∙ e in omega arith
      other (present i l f h) e = let z : ◌≡◌ {A = ℕ} 0 7 = sym (ap (λ (r : Registers). r.r3) (part_present i l f h)) ∙ e in omega arith

  -- where no element is cut, the answer is that of what is found
  good_walk : AllGood (framed b) b → lookup_told b id ≡ shown part
  good_walk h = walk_told ∙ ap (told_by (element_told Name.Lookup) (shown part)) ((accepted_exactly (framed b) b (framed_leads b)).1 h)

  -- 01: "6 with R4 = the count if no counted element has the ID"
  pub lookup_absent_exactly : (lookup_told b id ≡ three 6 (count_of b) 0) ↔ (AllGood (framed b) b × ((i : ℕ) → i < count_of b → id_at b (offset_at b i) ≢ id))
  lookup_absent_exactly = (there, λ f. good_walk f.0 ∙ part_missing f.1)
    where
      none : Sought b id (count_of b) → shown part ≡ three 6 (count_of b) 0 → (i : ℕ) → i < count_of b → id_at b (offset_at b i) ≢ id
      none (missing h) e = h
      none (present i l f h) e = let z : ◌≡◌ {A = ℕ} 0 6 = ap (λ (r : Registers). r.r3) (sym (part_present i l f h) ∙ e) in absurd (omega arith)

      at : (w : Walked) → cut ≡ w → told_by (element_told Name.Lookup) (shown part) w ≡ three 6 (count_of b) 0 → AllGood (framed b) b × ((i : ℕ) → i < count_of b → id_at b (offset_at b i) ≢ id)
      at (Ok _) q e = ((accepted_exactly (framed b) b (framed_leads b)).0 q, none (sought b id (count_of b)) e)
      at (Err stop) q e =
          let s = framed_bad b (offset_at b stop.place.index) stop.bad ((refused_exactly (framed b) b (framed_leads b) stop.bad stop.place).0 q).0.faulty in
          let z : ◌≡◌ {A = ℕ} 7 6 = ap (λ (x : Bad). (element_told Name.Lookup x stop.place).r3) (sym s) ∙ ap (λ (r : Registers). r.r3) e in
          absurd (omega arith)

      there : lookup_told b id ≡ three 6 (count_of b) 0 → AllGood (framed b) b × ((i : ℕ) → i < count_of b → id_at b (offset_at b i) ≢ id)
      there e = at cut refl (sym walk_told ∙ e)

  pub lookup_accepted_exactly : ((lookup_told b id).r3 ≡ 0) ↔ (AllGood (framed b) b × ((i : ℕ) × Counted b id i))
  lookup_accepted_exactly = (there, back)
    where
      good : ((told_by (element_told Name.Lookup) (shown part) cut).r3 ≡ 0) ↔ (AllGood (framed b) b × ((shown part).r3 ≡ 0))
      good = good_told (framed b) b (framed_leads b) cut refl (element_told Name.Lookup) (shown part) (λ bad place q. number_some bad (sym q))

      some : Sought b id (count_of b) → (shown part).r3 ≡ 0 → (i : ℕ) × Counted b id i
      some (missing h) e = let z : ◌≡◌ {A = ℕ} 6 0 = sym (ap (λ (r : Registers). r.r3) (part_missing h)) ∙ e in absurd (omega arith)
      some (present i l f h) e = (i, record { counted = l; named = f })

      zero : Sought b id (count_of b) → ((i : ℕ) × Counted b id i) → (shown part).r3 ≡ 0
      zero (missing h) f = absurd (h f.0 f.1.counted f.1.named)
      zero (present i l e h) f = ap (λ (r : Registers). r.r3) (part_present i l e h)

      there : (lookup_told b id).r3 ≡ 0 → AllGood (framed b) b × ((i : ℕ) × Counted b id i)
      there e =
          let f = good.0 (sym (ap (λ (r : Registers). r.r3) walk_told) ∙ e) in
          (f.0, some (sought b id (count_of b)) f.1)

      back : AllGood (framed b) b × ((i : ℕ) × Counted b id i) → (lookup_told b id).r3 ≡ 0
      back f = ap (λ (r : Registers). r.r3) walk_told ∙ good.1 (f.0, zero (sought b id (count_of b)) f.1)

  -- 01: "gives back the value part, in the caller's own buffer, of the last counted element with it"
  pub lookup_last : AllGood (framed b) b → (i : ℕ) → LastAt b id i → looked_up b id ≡ Ok (record { at = offset_at b i + 4; len = size_at b (offset_at b i) })
  unfolding unless_cut part_of
  lookup_last h i l =
      looked_walk b id g ∙ ap (λ (w : Walked). unless_cut w part) ((accepted_exactly (framed b) b (framed_leads b)).1 h)
      ∙ ap (part_of b) (last_found b id (count_of b) i l.here.counted l.here.named l.after)
