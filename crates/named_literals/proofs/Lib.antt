pub mod Numbers
pub mod Origins
