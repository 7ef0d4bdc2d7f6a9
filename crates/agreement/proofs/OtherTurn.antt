-- A call on another guest: both L1s see the same of it, and stay tied. Assumes nothing.
use mathlib.Core.Path.{◌≡◌, refl, sym, ap, ap₂, ◌∙◌}
use mathlib.Core.Logic.{inl}
use mathlib.Core.List.{List, [], ◌∷◌}
use Prim.Native.Nat.{ℕ, ◌+◌, ◌<◌}
use native.Mathlib.Omega.{arith}
use Rattle.octets.specs.Bytes.{bytes_at}
use Rattle.answer.specs.declared.Answer.{Answer}
use Rattle.answer.specs.Answer.{told}
use Rattle.elements.specs.Table.{thread_element}
use Rattle.rules.specs.Rules.{good_input, good_output}
use Rattle.elements.specs.Later.{offer_of}
use Rattle.store.specs.declared.Layout.{Layout}
use Rattle.store.specs.Layout.{Sound, slot_bytes}
use Rattle.exits.specs.Exits.{element_of}
use Rattle.admission.specs.Refusals.{Outcome}
use Rattle.l0.specs.Calls.{Call, outcome}
use Rattle.promises.specs.History.{name_of, registers}
use Rattle.promises.specs.Apart.{Elsewhere}
use Rattle.promises.proofs.Kept.{well_formed_kept}
use Rattle.promises.proofs.Apart.{apart_slot, apart_mark, apart_values, apart_pvr, apart_write}
use Rattle.agreement.specs.Agree.{Other, Cached, cached_turn, plain_turn, since}
use Rattle.l1.proofs.Cells.{input_named, named_end, number_named}
use Rattle.l1.specs.Cache.{Fit}
use Rattle.agreement.proofs.Writes.{placed, back}
use Rattle.agreement.proofs.Ours.{Ours, back_ours, values_value, values_input, values_output}
use Rattle.agreement.proofs.Invariant.{at, Inv, Goes, plain_ours}

module _ (l : Layout) (so : Sound l) (g v j : ℕ) (below : j < l.slots) (pvr : ℕ) (c : Call) (far : Elsewhere g c) where
  abbrev place : ℕ
  place = at l so g v j below pvr

  -- the writes that wait are neither seen nor touched
  other_back : (s : List ℕ) → Ours l so g v j below pvr s → (ws : List (ℕ × List ℕ)) → Fit (offer_of pvr) ws
      → outcome l (back place s ws) c ≡ record { answer = (outcome l s c).answer; store = back place (outcome l s c).store ws; buffer = (outcome l s c).buffer }
  unfolding back
  other_back s o [] f = refl
  other_back s o (w ∷ ws) f =
      let x = back place s ws in
      let k = back_ours l so g v j below pvr s ws f.2 o in
      let e = named_end w.0 (input_named (offer_of pvr) w.0 f.0) in
      apart_write l so x k.good g v j k.slot below (place + (element_of w.0).position) w.1 (inl (omega arith, omega (arith, e, f.1))) c far
      ∙ ap (λ (y : Outcome). record { answer = y.answer; store = placed place w y.store; buffer = y.buffer }) (other_back s o ws f.2)

  module _ (b : Cached) (p : List ℕ) (ws : List (ℕ × List ℕ)) (i : Inv l so g v j below pvr b p ws) where
    abbrev s : List ℕ
    s = b.store

    -- the plain L1's call, by the cached L1's
    both : outcome l p c ≡ record { answer = (outcome l s c).answer; store = back place (outcome l s c).store ws; buffer = (outcome l s c).buffer }
    both = ap (λ (x : List ℕ). outcome l x c) i.plain ∙ other_back s i.ours ws i.fit

    same_slot : (t : List ℕ) → Ours l so g v j below pvr t → bytes_at (outcome l t c).store place slot_bytes ≡ bytes_at t place slot_bytes
    same_slot t o = apart_values l so t o.good g v j o.slot below c far

    next_inv : Inv l so g v j below pvr (record { cache = b.cache; store = (outcome l s c).store }) (outcome l p c).store ws
    next_inv =
        let q = same_slot s i.ours in
        let r = same_slot p (plain_ours l so g v j below pvr b p ws i) in
        record {
          ours = record {
            good = well_formed_kept l so s i.ours.good c;
            slot = apart_slot l so s i.ours.good g v j i.ours.slot below c far;
            here = apart_mark l so s i.ours.good g v j i.ours.slot below c far ∙ i.ours.here;
            told = apart_pvr l so s i.ours.good g v j i.ours.slot below c far ∙ i.ours.told;
          };
          input = ap good_input (values_input l so g v j below pvr s (outcome l s c).store q) ∙ i.input;
          wide = omega (arith, i.wide, values_input l so g v j below pvr s (outcome l s c).store q);
          output = ap good_output (values_output l so g v j below pvr s (outcome l s c).store q) ∙ i.output;
          values = i.values;
          marks = i.marks;
          fit = i.fit;
          plain = ap (λ (o : Outcome). o.store) both;
          due = i.due;
          kept = i.kept;
          past = i.past;
          holds = λ e h u. i.holds e h u ∙ sym (values_value l so g v j below pvr p (outcome l p c).store r (thread_element e).id (number_named e h));
        }

    pub other_turn : Goes l so g v j below pvr b (Other c) ws (cached_turn l g v pvr (Other c) b) (plain_turn l g v (Other c) p)
    unfolding cached_turn plain_turn since registers
    other_turn = record {
      same = record {
        shown = ap₂ (λ (a : Answer) (x : List ℕ). record { answer = told (name_of c) a.fault a.value; buffer = x }) (ap (λ (o : Outcome). o.answer) (sym both)) (ap (λ (o : Outcome). o.buffer) (sym both));
        stores = tt;
        input = tt;
      };
      next = next_inv;
    }
