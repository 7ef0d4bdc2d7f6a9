-- Names that only contracts of inner functions use.
use Rattle.std.specs.Prelude.{ℕ, ◌+◌, ◌/◌, ◌^◌, ◌≤◌, ◌<◌, ◌≡◌, Bool, true, false, List, length, Ok, Err}
use Rattle.octets.specs.Bytes.{put}
use Rattle.records.specs.declared.Head.{Head}
use Rattle.records.specs.declared.Unread.{Unread}
use Rattle.records.specs.declared.Unread.TheVariants.{Cut, Bad}
use Rattle.records.specs.declared.playing.Stop.{Stop}
use Rattle.records.specs.Record.{Read, head_at, read_head}
use Rattle.records.specs.Replay.{Played}

-- what is read of a head
pub record Heads (b : List ℕ) (at : ℕ) (h : Head) : Type 0 where
  pub is : h ≡ head_at b at
  pub data_fits : h.data_len < 2 ^ 17
  pub effect_fits : h.effect_len < 2 ^ 17

-- why no record was read; `Cut` of one that was
abbrev pub reason : Read → Unread
reason (Ok h) = Cut
reason (Err e) = e

abbrev pub is_unread_bad : Unread → Bool
is_unread_bad Cut = false
is_unread_bad Bad = true

-- what the records of some bytes leave, with their lines written from the text's first byte on
pub record Stopped : Type 0 where
  pub stop : Stop
  pub store : List ℕ
  pub text : List ℕ

unfoldable pub stopped : List ℕ → List ℕ → ℕ → Played → Stopped
stopped b text end p = record {
  stop = record { at = p.at; number = p.number; end = end + length p.lines; unread = reason (read_head b p.at) };
  store = p.store;
  text = put text end p.lines;
}

-- what a window that is not refused has
pub record Ready (window filled number offset text : ℕ) : Type 0 where
  pub within : filled ≤ window
  pub room : filled / 31 + 2 ≤ text / 86
  pub counted : number ≤ offset
  pub fits : offset + filled < 2 ^ 64

-- a head whose fields have the request's widths; those of 64 bits are of the machine's
pub record Narrow (h : Head) : Type 0 where
  pub kind_fits : h.kind < 2 ^ 4
  pub exit_fits : h.exit_reason < 2 ^ 12
  pub data_fits : h.data_len < 2 ^ 17
  pub effect_fits : h.effect_len < 2 ^ 17
