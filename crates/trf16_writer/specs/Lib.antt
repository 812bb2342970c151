-- What the inner functions of trf16_writer name beside the words of trf16_report: steps, the keys of the order of start ranks, the
-- table of new start ranks, and the players of a report alone.
pub mod Steps
pub mod StartKeys
pub mod StartTable
pub mod Alone
