-- The small file and K1 to K9, by computation. Assumes nothing.
use mathlib.Core.Path.{refl}
use mathlib.Core.Bool.{Bool, true, ◌&&◌}
use mathlib.Core.List.{List, [], ◌∷◌}
use Prim.Native.Nat.{ℕ, zero, suc}
use native.Mathlib.Nat.{not-suc-le-zero}
use lib.Dec.{T, lit<, ltb, ltb→lt}
use mir.Facts.{and_yes}
use Rattle.verdict.specs.Rules.{first_broken, holds, number_of, ruled}
use Rattle.verdict.specs.Rules as rules
use Rattle.wire.specs.Wire.{le, from_le, le_at, splice, same, Bytes}
use Rattle.crc32_register.specs.Register.{bit_step, steps, byte_step, crc_from}
use Rattle.crc32.specs.Crc.{crc32}
use Rattle.utf8.specs.Utf8.{within, tails, sequences, followers, utf8_from, utf8_of}
use Rattle.varint.specs.Varint.{above, decode_in, decode, encode_in, encode}
use Rattle.parts.specs.Parts.{spelled, header_fields, header_bytes, header_of, block_header_fields, block_header_bytes}
use Rattle.parts.specs.Parts.{block_header_of, index_row_fields, index_row_bytes, index_row_of, footer_fields, footer_bytes}
use Rattle.parts.specs.Rules.{header_rules}
use Rattle.parts.specs.Time.{since_of, within_span, belongs_to}
use Rattle.rows.specs.Rows.{rows_of, table_bytes, first_time, last_from}
use Rattle.rows.specs.Rows as rows
use Rattle.layout.specs.Layout.{head_of, block_bytes, row_for, dictionary_bytes, rows_bytes, index_bytes, tail_bytes, closed_header, closing_bytes}
use Rattle.blocks.specs.Blocks.{stored_at, end_at, end_along, head_rules, sum_rule, scan_from, scan_of}
use Rattle.blocks.specs.Blocks as blocks
use Rattle.cursor.specs.Model.{right_length, right_bytes}
use Rattle.cursor.specs.Reading.{delta_rules, read_delta, count_rules, read_count, id_in, kind_in, length_in, bytes_in, size_in, read_field}
use Rattle.cursor.specs.Reading as cursor
use Rattle.cursor.specs.Answers.{as_delta, delta_at, as_field, field_at, value_at, val_in}
use Rattle.entries.specs.Reading.{read_fields, read_entry, entries_from, entries_of, last_time}
use Rattle.entries.specs.Reading as entries
use Rattle.entries.specs.Packing.{pack_field, pack_fields}
use Rattle.packing.specs.Entry.{field_in, fields_in, field_size, fields_size, entry_size, entry_bytes}
use Rattle.packing.specs.Rules.{part_right, text_rules, sized_rules, pack_rules}
use Rattle.packing.specs.Rules as packing
use Rattle.packing.specs.Table.{records_in, value_for, record_at, records_from, fields_of}
use Rattle.names.specs.Dictionary.{name_at, next_at, held, shape_rules, new_rule, names_rules}
use Rattle.names.specs.Dictionary as dictionary
use Rattle.name_search.specs.Search.{is_name, seek_from}
use Rattle.label.specs.Label.{printable, print_rules, label_rules, shortened, label_of, padded, abridged, label_bytes, label_out}
use Rattle.query.specs.Query.{listed, chosen, query_rules, query_of, query_out}
use Rattle.query.specs.Query as query
use Rattle.frame.specs.Frame.{whole_dictionary, frame_of, place_rules, index_size, length_rules, index_rules, footer_rules, frame_rules, index_rows}
use Rattle.frame.specs.Frame as frame
use Rattle.reader.specs.Open.{row_rules, blocks_rules, after_rules, rows_in, open_rules, open_of}
use Rattle.reader.specs.Open as reader
use Rattle.recovery.specs.Recovery.{limit_of, offset_rules, recover_rules, report_of, recover_of}
use Rattle.recovery.specs.Recovery as recovery
use Rattle.writer.specs.State.{is_new, is_begun, is_open, bound_rules, begun_rules}
use Rattle.writer.specs.Begin.{first_bytes, begin_rules, begin_of, begin_out}
use Rattle.writer_names.specs.Name.{held_as, new_rules, name_rules, with_name, name_bytes, appended, name_out}
use Rattle.writer_names.specs.Name as name
use Rattle.writer_entries.specs.Entry.{start_for, earliest_for, delta_for, time_rules, entry_rules, with_entry, entry_of, entry_out}
use Rattle.writer_blocks.specs.Block.{read_by, block_for, take_rules, with_block, block_of, rows_out, block_out}
use Rattle.writer_blocks.specs.Block as block
use Rattle.writer_close.specs.Close.{last_bytes, end_rules, last_rules, close_rules, close_of, close_out}
use Rattle.disk.specs.Disk.{store_bytes, total, headed, put, disk}
use Rattle.claims.specs.Calls.{verdict_for, next, last_stores, handed, stores, run, dictionary_after, payload_after, table_after, behind, Fair}
use Rattle.claims.specs.Built.{names_bytes, plain_names}
use Rattle.claims.specs.Worked.{small_open, small_added, small_closed, verdicts, small_adding, first_fields, second_fields, Worked}

-- bytes, by computation
abbrev below : List ℕ → Bool
below [] = true
below (b ∷ s) = ltb b 256 && below s

bytes : (s : List ℕ) → T (below s) → Bytes s
bytes [] t k = lit< tt
bytes (b ∷ s) t zero = ltb→lt b 256 (and_yes (ltb b 256) (below s) t).0
bytes (b ∷ s) t (suc k) = bytes s (and_yes (ltb b 256) (below s) t).1 k

pub worked : Worked
unfolding first_broken holds number_of rules.place_of ruled le from_le le_at splice same bit_step steps byte_step crc_from crc32 within tails sequences
    followers
    utf8_from utf8_of above decode_in decode encode_in encode spelled header_fields header_bytes header_of block_header_fields block_header_bytes
    block_header_of
    index_row_fields
    index_row_bytes index_row_of footer_fields footer_bytes header_rules since_of within_span belongs_to rows.row_bytes rows.row_of rows.row_at rows.room_rules
    rows.numbered_from rows_of table_bytes first_time last_from head_of block_bytes row_for
    dictionary_bytes rows_bytes index_bytes tail_bytes closed_header closing_bytes stored_at end_at end_along head_rules sum_rule blocks.block_rules
    blocks.block_row
    scan_from
    scan_of right_length right_bytes delta_rules read_delta count_rules read_count id_in kind_in length_in bytes_in size_in cursor.field_rules read_field
    as_delta delta_at
    as_field field_at value_at val_in read_fields entries.order_rules read_entry entries_from entries_of last_time pack_field pack_fields field_in fields_in
    field_size
    fields_size entry_size entry_bytes part_right text_rules packing.field_rules packing.room_rules sized_rules pack_rules records_in value_for record_at
    records_from
    fields_of name_at next_at dictionary.place_of dictionary.name_of held shape_rules new_rule names_rules dictionary.dictionary_rules is_name seek_from
    printable
    print_rules label_rules shortened label_of padded abridged label_bytes label_out listed chosen query.order_rules query.count_rules query_rules query_of
    query_out
    frame.dictionary_rules whole_dictionary frame_of place_rules index_size length_rules index_rules footer_rules frame_rules index_rows row_rules blocks_rules
    after_rules rows_in open_rules reader.call_rules open_of limit_of offset_rules recover_rules report_of recovery.call_rules
    recover_of is_new is_begun is_open bound_rules begun_rules first_bytes begin_rules begin_of begin_out held_as new_rules name_rules with_name name.name_of
    name_bytes
    appended name_out start_for earliest_for delta_for time_rules entry_rules with_entry entry_of entry_out read_by block_for take_rules block.store_rules
    block.block_rules with_block block_of rows_out block_out last_bytes end_rules last_rules close_rules close_of close_out store_bytes total headed put disk
    verdict_for
    next last_stores handed stores run dictionary_after payload_after table_after behind Fair names_bytes plain_names small_open small_added small_closed
    verdicts
worked =
    record {
      fair = (
        (tt, λ v. tt),
        (
          (tt, λ v none. absurd (not-suc-le-zero none)),
          (
            (tt, λ v some. refl),
            (
              ((lit< tt, bytes first_fields tt), λ v. refl),
              (
                ((lit< tt, bytes second_fields tt), λ v. refl),
                (((bytes small_adding.plain tt, bytes small_adding.stored tt), λ v. refl), ((tt, λ v. refl), tt)),
              ),
            ),
          ),
        ),
      );
      accepted = refl;
      names = refl;
      plain = refl;
      opens = refl;
      size = refl;
      k1 = refl;
      k2 = refl;
      k3 = refl;
      k4 = refl;
      k5 = ((refl, refl), (refl, refl));
      k6 = ((refl, refl), (refl, refl));
      k7 = (refl, refl);
      k8 = ((refl, refl), (refl, refl));
      k9 = (refl, refl);
      later = (refl, refl, refl);
    }
