-- THEOREM `judge_edges_lem`: each number of request L10 is what the rules give. Computed. Assumes nothing.
use mathlib.Core.Path.{◌≡◌, refl}
use mathlib.Core.Bool.{true}
use Rattle.octets.specs.Bytes.{bytes_at, put, be, digits, zeros}
use Rattle.octets.specs.Bits.{bit, bits}
use Rattle.elements.specs.Table.{table, below, position, number_of, numbered, thread_element}
use Rattle.gsb.specs.Walk.{offset_at, walk_on, walk}
use Rattle.gsb.specs.Message.{elements_in}
use Rattle.store.specs.Search.{every, first}
use Rattle.store.specs.Header.{header, capabilities_of, live, word, word_of, is_used, guest_of, is_taken, holds, lacks, alone, slot_good, head_good, words_good, slot_holding, slot_of}
use Rattle.store.specs.Store.{well_formed, fresh}
use Rattle.exits.specs.Exits.{exits, is_among, row_of, valued}
use Rattle.admission.specs.Target.{base_of}
use Rattle.judging.specs.Judging.{is_ours, our_value, times, same, is_repeated, compared, lacking, found, judge_output}
use Rattle.promises.specs.Edges.{agrees, element, buffer_of, one}
use Rattle.promises.specs.Judging.{judged_store, taken_store, judge_edges}

pub judge_edges_lem : agrees judge_edges ≡ true
unfolding bytes_at put be digits zeros bit bits table below position number_of numbered thread_element offset_at walk_on walk elements_in every first header capabilities_of live word word_of is_used guest_of is_taken holds lacks alone slot_good head_good words_good slot_holding slot_of well_formed fresh exits is_among row_of valued base_of is_ours our_value times same is_repeated compared lacking found judge_output element buffer_of one judged_store taken_store judge_edges
judge_edges_lem = refl
