-- A register's value moved, once over its size. Assumes nothing.
use mathlib.Core.Path.{◌≡◌}
use mathlib.Core.List.{List}
use Prim.Native.Nat.{ℕ, ◌+◌, ◌^◌, ◌≤◌, ◌<◌}
use native.Mathlib.Omega.{arith}
use lib.ListN.{length}
use Rattle.octets.specs.Bytes.{bytes_at, put}
use Rattle.std.specs.Prelude.{Some}
use Rattle.elements.specs.declared.Register.{Register}
use Rattle.elements.specs.Registers.{register_of}
use Rattle.elements.proofs.RegisterLaws.{IsRegister, is_register}
use Rattle.gsb.specs.Walk.{id_at, next_at}
use Rattle.elements.specs.Table.{kind_of}
use Rattle.transfer.specs.Transfer.{value_at, put_as, fill_as, Ready}
use Rattle.transfer.proofs.Moving.{register_fits, register_stored, register_filled}

module _ (b : List ℕ) (at base len id : ℕ) (x : Register) (i : id ≡ id_at b at) (e : Some x ≡ register_of id) (y : Ready base b at len) where
  its : IsRegister id x
  its = is_register id x e

  its_fits : (base + x.position + x.size ≤ len) × (at + 4 + x.size ≤ length b) × (at + 4 + x.size ≡ next_at b at)
  its_fits = register_fits b at base len id i y x.size x.position its.access its.kind

  pub its_room : base + x.position + x.size ≤ len
  its_room = its_fits.0

  pub its_inside : at + 4 + x.size ≤ length b
  its_inside = its_fits.1

  pub its_next : at + (4 + x.size) ≡ next_at b at
  its_next = omega (arith, its_fits.2)

  -- the sums of the code
  pub its_place : len < 2 ^ 64 → base + x.position < 2 ^ 64
  its_place l = omega (arith, its_room)

  pub its_step : length b < 2 ^ 64 → 4 + x.size < 2 ^ 64
  its_step l = omega (arith, its_inside)

  pub its_end : length b < 2 ^ 64 → at + (4 + x.size) < 2 ^ 64
  its_end l = omega (arith, its_inside)

  pub its_stored : (s u : List ℕ) → u ≡ put s (base + x.position) (bytes_at b (at + 4) x.size) → u ≡ put_as (kind_of (id_at b at)) base (value_at b at) s
  its_stored s u h = register_stored b at base len id i y x.size x.position its.access its.kind s u h

  pub its_filled : (s u : List ℕ) → u ≡ put b (at + 4) (bytes_at s (base + x.position) x.size) → u ≡ fill_as (kind_of (id_at b at)) base s at b
  its_filled s u h = register_filled b at base len id i y x.size x.position its.access its.kind s u h
