-- A store in which the vCPU has slot j: what its calls find there, and what a write into the slot leaves. Assumes nothing.
use mathlib.Core.Path.{◌≡◌, refl, sym, ap, ◌∙◌, subst}
use mathlib.Core.Bool.{Bool, true, false, not, ◌&&◌, cond}
use mathlib.Core.List.{List}
use Prim.Native.Nat.{ℕ, ◌+◌, ◌≤◌, ◌<◌}
use native.Mathlib.Omega.{arith}
use lib.Dec.{ltb}
use lib.ListN.{length}
use borrow.Author.Tests.{lt-leb}
use Rattle.octets.specs.Bytes.{bytes_at, be, right}
use Rattle.octets.proofs.Bytes.{part_of_part}
use Rattle.octets.proofs.Numbers.{be_other, be_part}
use Rattle.elements.specs.declared.Scope.TheVariants.{Guest}
use Rattle.elements.specs.Table.{table, below, position}
use Rattle.elements.specs.Later.{offer_of}
use Rattle.rules.specs.declared.Usage.{Usage}
use Rattle.store.specs.declared.Layout.{Layout}
use Rattle.store.specs.Layout.{Sound, slot_bytes, guest_at, slot_at}
use Rattle.store.specs.Header.{header, capabilities_of, live, slot_holding, word_of, slot_of, is_taken}
use Rattle.store.specs.Store.{well_formed}
use Rattle.store.proofs.Tests.{live_parts}
use Rattle.store.proofs.Frame.{header_values, formed_values, formed}
use Rattle.exits.specs.Exits.{element_of}
use Rattle.admission.specs.Refusals.{bit1, Passed}
use Rattle.admission.specs.Target.{target_tests, base_of}
use Rattle.state.specs.State.{pvr_of, context_of}
use Rattle.state.proofs.Buffers.{pvr_place}
use Rattle.run.specs.Run.{input_size, output_size}
use Rattle.l1.specs.Marks.{is_input}
use Rattle.l1.proofs.Cells.{Named, named_end, input_behind, value_of}
use Rattle.l1.specs.Cache.{Fit}
use Rattle.agreement.proofs.Writes.{placed, back, back_keeps}

module _ (l : Layout) (so : Sound l) (g v j : ℕ) (below_slots : j < l.slots) (pvr : ℕ) where
  -- where the vCPU's values start
  abbrev pub base : ℕ
  base = slot_at l j

  pub record Ours (s : List ℕ) : Type 0 where
    pub good : well_formed l s ≡ true
    pub slot : slot_of l (header l s) g v ≡ j
    pub here : is_taken l (header l s) j ≡ false
    -- the PVR that the cache's calls are told
    pub told : pvr_of l s g ≡ pvr

  module _ (s : List ℕ) (o : Ours s) where
    pub ours_long : length s ≡ l.size
    ours_long = (formed l s o.good).long

    pub ours_room : base + 1820 ≤ length s
    ours_room = omega (arith, ours_long, so.whole)

    pub ours_base : base_of l s false g v ≡ base
    unfolding base_of
    ours_base = ap (slot_at l) o.slot

    pub ours_live : live l (header l s) g ≡ true
    unfolding slot_of
    ours_live = go (live l (header l s) g) (ltb v 2048) o.slot
      where
        go : (a b : Bool) → cond (a && b) (slot_holding l (header l s) (word_of l g v)) l.slots ≡ j → a ≡ true
        go true b e = refl
        go false b e = absurd (omega arith)

    -- so that its list is the cache's
    pub ours_context : (usage : Usage) → context_of l s g usage ≡ record { usage = usage; capabilities = capabilities_of (header l s); offer = offer_of pvr }
    ours_context usage = ap (λ (n : ℕ). record { usage = usage; capabilities = capabilities_of (header l s); offer = offer_of n }) o.told

    -- a thread get or set passes the tests 1 to 4 and 16
    pub ours_target : Passed (target_tests l s bit1 0 false g v)
    ours_target =
        (ap not o.good, (refl, (ap not ours_live, (lt-leb _ _ (subst (λ (n : ℕ). n < l.slots) (sym o.slot) below_slots), (ap (is_taken l (header l s)) o.slot ∙ o.here, tt)))))

  -- ---- a value written into the slot
  module _ (s : List ℕ) (w : ℕ × List ℕ) (h : is_input (offer_of pvr) w.0 ≡ true) (z : length w.1 ≡ (element_of w.0).size) where
    place_behind : l.guests_at ≤ base + (element_of w.0).position
    place_behind = omega (arith, so.guests_fit)

    pub placed_header : header l (placed base w s) ≡ header l s
    placed_header = header_values l so s (base + (element_of w.0).position) w.1 place_behind

    -- the guest's own values come before
    placed_pvr : live l (header l s) g ≡ true → pvr_of l (placed base w s) g ≡ pvr_of l s g
    placed_pvr lv =
        let b = live_parts l (header l s) g lv in
        let p = pvr_place in
        be_other s (base + (element_of w.0).position) w.1 (guest_at l g + position Guest 0x0003) 4 (right (omega (arith, p, so.guests_fit, b.0, b.1)))

    pub placed_ours : Ours s → Ours (placed base w s)
    placed_ours o = record { told = placed_pvr (ours_live s o) ∙ o.told; good = formed_values l so s (base + (element_of w.0).position) w.1 place_behind ∙ o.good; slot = ap (λ (x : List ℕ). slot_of l x g v) placed_header ∙ o.slot; here = ap (λ (x : List ℕ). is_taken l x j) placed_header ∙ o.here }

    -- the two registrations come before
    pub placed_input : input_size (placed base w s) base ≡ input_size s base
    unfolding position below table
    placed_input = be_other s (base + (element_of w.0).position) w.1 (base + 0 + 8) 8 (right (omega (arith, input_behind (offer_of pvr) w.0 h)))

    pub placed_output : output_size (placed base w s) base ≡ output_size s base
    unfolding position below table
    placed_output = be_other s (base + (element_of w.0).position) w.1 (base + 16 + 8) 8 (right (omega (arith, input_behind (offer_of pvr) w.0 h)))

  -- ---- all the writes
  pub back_ours : (s : List ℕ) (ws : List (ℕ × List ℕ)) → Fit (offer_of pvr) ws → Ours s → Ours (back base s ws)
  back_ours s ws f o = back_keeps (offer_of pvr) base Ours (λ t w h z. placed_ours t w h z) s ws f o

  record Like (s t : List ℕ) : Type 0 where
    header_like : header l t ≡ header l s
    input_like : input_size t base ≡ input_size s base
    output_like : output_size t base ≡ output_size s base

  like_back : (s : List ℕ) (ws : List (ℕ × List ℕ)) → Fit (offer_of pvr) ws → Like s (back base s ws)
  like_back s ws f =
      back_keeps (offer_of pvr) base (Like s)
      (λ t w h z k. record { header_like = placed_header t w h z ∙ k.header_like; input_like = placed_input t w h z ∙ k.input_like; output_like = placed_output t w h z ∙ k.output_like })
      s ws f (record { header_like = refl; input_like = refl; output_like = refl })

  module _ (s : List ℕ) (ws : List (ℕ × List ℕ)) (f : Fit (offer_of pvr) ws) where
    pub back_header : header l (back base s ws) ≡ header l s
    back_header = (like_back s ws f).header_like

    pub back_input : input_size (back base s ws) base ≡ input_size s base
    back_input = (like_back s ws f).input_like

    pub back_output : output_size (back base s ws) base ≡ output_size s base
    back_output = (like_back s ws f).output_like

  -- ---- two stores with the same bytes in the slot
  module _ (s t : List ℕ) (e : bytes_at t base slot_bytes ≡ bytes_at s base slot_bytes) where
    pub values_value : (id : ℕ) → Named id → value_of base t id ≡ value_of base s id
    values_value id n =
        let k = named_end id n in
        sym (part_of_part t base slot_bytes (element_of id).position (element_of id).size k) ∙ ap (λ (x : List ℕ). bytes_at x (element_of id).position (element_of id).size) e
        ∙ part_of_part s base slot_bytes (element_of id).position (element_of id).size k

    values_number : (p : ℕ) → p + 8 + 8 ≤ slot_bytes → be t (base + p + 8) 8 ≡ be s (base + p + 8) 8
    values_number p k =
        let q : base + (p + 8) ≡ base + p + 8 = omega arith in
        ap (λ (n : ℕ). be t n 8) (sym q) ∙ sym (be_part t base slot_bytes (p + 8) 8 k) ∙ ap (λ (x : List ℕ). be x (p + 8) 8) e ∙ be_part s base slot_bytes (p + 8) 8 k ∙ ap (λ (n : ℕ). be s n 8) q

    pub values_input : input_size t base ≡ input_size s base
    unfolding position below table
    values_input = values_number 0 (omega arith)

    pub values_output : output_size t base ≡ output_size s base
    unfolding position below table
    values_output = values_number 16 (omega arith)
